-- The parts of the outcome that are equal after two calls from equal states: those that the contract of the call determines (our choice).
use Rattle.std.specs.Prelude.{⊤, ◌≡◌, ◌≢◌, ◌⊎◌, ◌↔◌, ◌++◌, ℕ, Err, List, Result, Some, length, slice_get}
use Rattle.adapter.specs.HostFrames.{frames_to_send}
use Rattle.adapter.specs.World.{World}
use Rattle.mdic_phy.specs.declared.phy.Link.TheVariants.{Never}
use Rattle.bring_up.specs.Link.{NeedsMoreThan}
use Rattle.bring_up.specs.declared.init_error.InitError.{InitError}
use Rattle.host_calls.specs.DrainedHosts.{HoldsNothing}
use Rattle.host_calls.specs.Networks.{IsHost, NetworkState}
use Rattle.network_plan.specs.declared.plan.HostPlan.{HostPlan}
use Rattle.network_plan.specs.declared.plan_error.PlanError.{PlanError}
use Rattle.network_plan.specs.declared.plan_error.PlanError.TheVariants as refused
use Rattle.packet_socket.specs.HostCalls.{Given, given_for}
use Rattle.packet_socket.specs.HostState.{HostState}
use Rattle.rx_filter.specs.Passing.{Passes}
use Rattle.rx_filter.specs.Registers.{filter_of}
use Rattle.stations.specs.Stations.{StationState, backlog_at, world_at}
use Rattle.wire.specs.Equations.{missed_count}
use Rattle.wire.specs.HostsUp.{most_link_ticks}

-- Networks that were made by one plan

-- the adapter's receive filter passes this frame
abbrev pub PassesAt : World → List ℕ → Type 0
PassesAt world frame = Passes (filter_of world.adapter.filter) frame

-- Two hosts, with their adapters and memories, are alike: these parts are equal.
pub record HostsAreAlike (one : HostState) (a : World) (other : HostState) (b : World) : Type 0 where
  -- the sizes of the rings, and the number of receive buffers
  pub layout : one.driver.layout ≡ other.driver.layout
  -- the size of the memory
  pub memory : length a.memory ≡ length b.memory
  -- the sockets
  pub kinds : one.kinds ≡ other.kinds
  -- the size of the receive packet buffer
  pub allocation : a.adapter.receive_kilobytes ≡ b.adapter.receive_kilobytes
  -- the frames that the filter passes
  pub passes : (frame : List ℕ) → PassesAt a frame ↔ PassesAt b frame
  -- the EEPROM
  pub image : a.adapter.image ≡ b.adapter.image
  -- the setting of the link: after how many PHY ticks the link is up, or that it is never up
  pub link : a.adapter.phy.link ≡ b.adapter.phy.link

-- Two networks are alike: these parts are equal.
pub record NetworksAreAlike (one other : NetworkState) : Type 0 where
  -- the number of hosts
  pub count : length one.hosts ≡ length other.hosts
  -- hosts with the same number are alike
  pub hosts : (k : ℕ) (h h' : HostState) (s s' : StationState) → IsHost one k h → IsHost other k h' → slice_get one.stations k ≡ Some s
      → slice_get other.stations k ≡ Some s' → HostsAreAlike h s.world h' s'.world
  -- the wire of each host
  pub wires : (k : ℕ) (s s' : StationState) → slice_get one.stations k ≡ Some s → slice_get other.stations k ≡ Some s' → s.wire ≡ s'.wire

-- the error is that of an invalid plan: neither refused memory nor a host that can't be initialized
abbrev pub IsOfPlan : PlanError → Type 0
IsOfPlan refused.Memory = ⊥
IsOfPlan (refused.Init host error) = ⊥
IsOfPlan error = ⊤

-- The link of each host is up within 2,000 PHY ticks, or never. The contract of `Lan::new` doesn't state whether
-- initialization succeeds if a link is up later.
abbrev pub LinksAreClear : List HostPlan → Type 0
LinksAreClear plans =
    (k : ℕ) (plan : HostPlan) → slice_get plans k ≡ Some plan → NeedsMoreThan most_link_ticks plan.link → plan.link ≡ Never

-- the answer is the error Init with this host and this reason, or the error Memory
abbrev pub IsSameFailure : {T : Type 0} (host : ℕ) → InitError → Result T PlanError → Type 0
IsSameFailure host error answer = (answer ≡ Err refused.Memory) ⊎ (answer ≡ Err (refused.Init host error))

-- Drains of one host from one state

-- the frames of a sink before and after a drain
pub record Outlets : Type 0 where
  pub before : List Given
  pub after : List Given

-- a drain appended the frames `frames` to those in the sink
pub record Gave (outlet : Outlets) : Type 0 where
  pub frames : List Given
  pub appended : outlet.after ≡ outlet.before ++ frames

-- After two drains of host `host`, these parts are equal. The first drain led to the network `one`, the second to
-- `other`.
pub record DrainsAreAlike (host : ℕ) (a b : Outlets) (one other : NetworkState) : Type 0 where
  -- the frames that each drain returned
  pub first : Gave a
  pub second : Gave b
  -- the frames of each socket, in order
  pub given : (socket : ℕ) → given_for socket first.frames ≡ given_for socket second.frames
  -- the host holds nothing after the first drain
  pub nothing : (h : HostState) → IsHost one host h → HoldsNothing h (world_at one.stations host)
  -- the frames that the host still has to send
  pub to_send : frames_to_send (world_at one.stations host) ≡ frames_to_send (world_at other.stations host)
  -- the frames that wait at the ends of wires
  pub lines : (k : ℕ) → backlog_at one.stations k ≡ backlog_at other.stations k
  -- the other hosts, with their adapters and memories
  pub hosts : (k : ℕ) → k ≢ host → slice_get one.hosts k ≡ slice_get other.hosts k
  pub worlds : (k : ℕ) → k ≢ host → world_at one.stations k ≡ world_at other.stations k
  -- the count of missed frames of the host
  pub counts : (h h' : HostState) → IsHost one host h → IsHost other host h'
      → missed_count h (world_at one.stations host) ≡ missed_count h' (world_at other.stations host)
