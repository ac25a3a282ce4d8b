-- Hosts after their initialization by `Lan::new`, and why a host can't be initialized (our choice).
use Rattle.std.specs.Prelude.{⊤, ◌≡◌, ◌≢◌, ◌<◌, ◌*◌, ◌↔◌, ℕ, false, true, IsTrue, List, [], Some, String, length, replicate, slice_get}
use Rattle.std.specs.Prelude.{string_eq}
use Rattle.std.specs.List.{position_or_len}
use Rattle.std.specs.declared.alloc.Global.{Global}
use Rattle.eeprom.specs.Image.{HasRightSum}
use Rattle.mdic_phy.specs.declared.mdic.Ticked.{Ticked}
use Rattle.mdic_phy.specs.declared.phy.Link.TheVariants.{Never}
use Rattle.dma_memory.specs.Layout.{size_of}
use Rattle.adapter.specs.HostFrames.{frames_held, frames_to_send}
use Rattle.adapter.specs.State.{IsAdapter}
use Rattle.adapter.specs.Steps.{causes_told}
use Rattle.adapter.specs.World.{World}
use Rattle.adapter.specs.Link.{HasLink}
use Rattle.adapter.specs.Machines.{is_asserted}
use Rattle.bring_up.specs.Configuration.{configured_counts}
use Rattle.bring_up.specs.EepromReading.{most_reads}
use Rattle.bring_up.specs.Link.{NeedsMoreThan}
use Rattle.bring_up.specs.declared.init_error.InitError.{InitError}
use Rattle.bring_up.specs.declared.init_error.InitError.TheVariants.{Checksum, Memory, NoLink}
use Rattle.adapter.specs.Calls.{HasNoForgottenWork, IsRefilled}
use Rattle.bring_up.specs.ConfiguredAdapters.{HasSetup}
use Rattle.bring_up.specs.Groups.{AreNamedOnce, HasTable}
use Rattle.packet_socket.specs.HostCalls.{HostReady}
use Rattle.packet_socket.specs.HostState.{HostState}
use Rattle.stations.specs.Stations.{StationState}
use Rattle.host_calls.specs.CountedHosts.{CanAnswer}
use Rattle.network_plan.specs.declared.plan.HostPlan.{HostPlan}
use Rattle.network_plan.specs.declared.plan_error.PlanError.{PlanError}
use Rattle.network_plan.specs.declared.plan_error.PlanError.TheVariants as refused
use Rattle.wire.specs.Filters.{HasPlansFilter}

-- All counts of the host are 0, and the driver's sum of missed frames is exact.
pub record CountsNothing (host : HostState) (world : World) : Type 0 where
  -- the driver's sum of missed frames is 0
  pub missed : host.driver.missed ≡ 0
  -- this sum is exact
  pub exact : host.driver.exact ≡ true
  -- MPC is 0
  pub missed_packets : world.adapter.missed_packets ≡ 0
  -- RNBC is 0
  pub without_descriptor : world.adapter.no_receive_buffers ≡ 0
  -- GPRC is 0
  pub received : world.adapter.received_packets ≡ 0
  -- GPTC is 0
  pub transmitted : world.adapter.transmitted_packets ≡ 0
  -- no frame without a socket was counted
  pub unclaimed : host.unclaimed ≡ 0

-- The host has no frames, no frame waits for it, and all its counts are 0.
pub record HostHasNoFrames (host : HostState) (station : StationState) : Type 0 where
  -- no frame is to be sent
  pub to_send : frames_to_send station.world ≡ []
  -- no frame is in the receive ring or in the receive packet buffer
  pub held : frames_held host.driver.oldest_receive station.world ≡ []
  -- there is one queue for each socket, and each queue is empty
  pub queues : host.queues ≡ replicate (length host.kinds) []
  -- no frame waits at the host's end of the wire
  pub backlog : station.backlog ≡ []
  -- all counts are 0
  pub counts : CountsNothing host station.world

-- The host is ready, no work is forgotten, the receive ring is refilled, no slot is staged, and both sides of its
-- adapter are enabled.
pub record IsReadyToRun (host : HostState) (world : World) : Type 0 where
  -- the host is ready
  pub ready : HostReady host world
  -- no work is forgotten
  pub work : HasNoForgottenWork host.driver world
  -- no buffer is free, or all receive slots except one are outstanding
  pub refilled : IsRefilled host.driver
  -- no slot is staged
  pub offered : host.driver.staged ≡ []
  -- both sides of the adapter are enabled, and each head and tail is the index of a slot of its ring
  pub can : CanAnswer world.adapter

-- The host's rings, buffers, sockets, packet buffer, filter and groups are those of its plan, and its memory ends with
-- the last buffer.
pub record HasPlansSizes (plan : HostPlan) (host : HostState) (world : World) : Type 0 where
  -- rings and buffers have the plan's sizes
  pub layout : host.driver.layout ≡ configured_counts plan.config
  -- the memory ends with the last buffer
  pub memory : length world.memory ≡ size_of (configured_counts plan.config)
  -- the sockets are the plan's
  pub kinds : host.kinds ≡ plan.sockets.items
  -- PBA.RXA is the plan's
  pub allocation : world.adapter.receive_kilobytes ≡ plan.config.rxa
  -- the receive filter is the plan's
  pub filter : HasPlansFilter plan world.adapter.filter
  -- the adapter has the driver's setup
  pub set_up : HasSetup host.driver.setup world.adapter
  -- the groups of the configuration are joined, each once
  pub groups : AreNamedOnce plan.config.groups.items host.driver.groups
  -- MTA has exactly the bits of the joined groups
  pub table : HasTable host.driver.groups world

-- The host's EEPROM is the plan's, with a right checksum. The link has the plan's setting and is up, and no command of
-- MDIC is pending.
pub record HasPlansDevices (plan : HostPlan) (world : World) : Type 0 where
  -- the EEPROM has the plan's words
  pub image : world.adapter.image ≡ plan.image
  -- the checksum is right
  pub sum : HasRightSum plan.image
  -- the link has the plan's setting
  pub link_is : world.adapter.phy.link ≡ plan.link
  -- the setting isn't that of a link that is never up
  pub comes : plan.link ≢ Never
  -- the link is up, and no command of MDIC is pending
  pub link : HasLink world

-- These causes are those that one tick of the PHY may record: LSC, MDAC, both or neither.
abbrev pub AreOfPhy : ℕ → Type 0
AreOfPhy causes = (ticked : Ticked) × (causes ≡ causes_told ticked)

-- No causes except LSC and MDAC are recorded, and the interrupt line isn't asserted.
pub record HasNoInterrupt (world : World) : Type 0 where
  -- no causes except LSC and MDAC are recorded
  pub recorded : AreOfPhy world.adapter.causes.recorded
  -- the interrupt line isn't asserted
  pub line : is_asserted world.adapter ≡ false

-- A host and its station after initialization by its plan.
pub record ComesUp (plan : HostPlan) (host : HostState) (station : StationState) : Type 0 where
  -- the host is ready, no work is forgotten, the receive ring is refilled, and both sides of its adapter are enabled
  pub ready : IsReadyToRun host station.world
  -- the host's sizes, sockets, filter and groups are the plan's
  pub sizes : HasPlansSizes plan host station.world
  -- the host's EEPROM and link are the plan's, the checksum is right, and the link is up
  pub devices : HasPlansDevices plan station.world
  -- the host has no frames, no frame waits for it, and all its counts are 0
  pub no_frames : HostHasNoFrames host station
  -- no causes except LSC and MDAC are recorded, and the interrupt line isn't asserted
  pub no_interrupt : HasNoInterrupt station.world
  -- the adapter meets its invariant
  pub adapter : IsAdapter station.world.adapter

-- A link that needs at most this number of PHY ticks is found up. The PHY's status is read up to `most_reads` (1,000)
-- times, each time by two accesses. A tick of the PHY comes before each access.
abbrev pub most_link_ticks : ℕ
most_link_ticks = 2 * most_reads

-- The error is right for this plan. Checksum: the EEPROM's checksum is wrong. NoLink: the checksum is right, and the
-- link needs more than 2,000 PHY ticks or is never up. No other error is right.
abbrev pub IsDevices : HostPlan → InitError → Type 0
IsDevices plan Checksum = ¬ (HasRightSum plan.image)
IsDevices plan NoLink = HasRightSum plan.image × NeedsMoreThan most_link_ticks plan.link
IsDevices plan error = ⊥

-- The error is Memory, or is right for this plan (`IsDevices`).
abbrev pub IsReason : HostPlan → InitError → Type 0
IsReason plan Memory = ⊤
IsReason plan error = IsDevices plan error

-- All hosts

-- the number of a wire: the number of the first host whose plan names it, or the number of plans if there is no such
-- host
abbrev pub wire_number : List HostPlan → String Global → ℕ
wire_number plans wire = position_or_len (λ (plan : HostPlan). string_eq plan.wire wire) plans

-- The first `count` hosts of a plan are initialized, each on its wire.
pub record AreUp (plans : List HostPlan) (count : ℕ) (hosts : List HostState) (stations : List StationState) : Type 0 where
  -- the number of hosts is `count`
  pub host_count : length hosts ≡ count
  -- the number of stations is `count`
  pub station_count : length stations ≡ count
  -- each host is initialized by its plan
  pub each :
      (k : ℕ) (plan : HostPlan) (host : HostState) (station : StationState) → slice_get plans k ≡ Some plan → slice_get hosts k ≡ Some host
      → slice_get stations k ≡ Some station → ComesUp plan host station
  -- each host is on the plan's wire
  pub wires :
      (k : ℕ) (plan : HostPlan) (station : StationState) → slice_get plans k ≡ Some plan → slice_get stations k ≡ Some station
      → station.wire ≡ wire_number plans plan.wire

-- Two hosts are on one wire exactly if their plans name the same wire.
abbrev pub ShareWires : List HostPlan → List StationState → Type 0
ShareWires plans stations =
    (j k : ℕ) (one other : HostPlan) (a b : StationState) → slice_get plans j ≡ Some one → slice_get plans k ≡ Some other
    → slice_get stations j ≡ Some a → slice_get stations k ≡ Some b
    → (a.wire ≡ b.wire) ↔ IsTrue (string_eq one.wire other.wire)

-- Each of the first `count` hosts has an EEPROM with a right checksum, and a link whose setting isn't Never.
abbrev pub CanComeUp : List HostPlan → ℕ → Type 0
CanComeUp plans count =
    (k : ℕ) (plan : HostPlan) → k < count → slice_get plans k ≡ Some plan → HasRightSum plan.image × (plan.link ≢ Never)

-- The plan has a host `number`, the error is right for this host (`IsDevices`), and `CanComeUp` holds for the hosts
-- before this host.
abbrev pub IsNotUp : List HostPlan → ℕ → InitError → Type 0
IsNotUp plans number error =
    (plan : HostPlan) × (slice_get plans number ≡ Some plan) × IsDevices plan error × CanComeUp plans number

-- The error is Memory, or Init with a host for which `IsNotUp` holds.
abbrev pub IsRefusal : List HostPlan → PlanError → Type 0
IsRefusal plans refused.Memory = ⊤
IsRefusal plans (refused.Init number error) = IsNotUp plans number error
IsRefusal plans error = ⊥
