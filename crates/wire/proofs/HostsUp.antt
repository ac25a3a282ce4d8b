-- `ComesUp` holds for a host that was initialized over its own lively bus.
use Rattle.std.proofs.Common.{◌≡◌, ◌≢◌, ◌<◌, ◌+◌, ◌-◌, [], ◌∙◌}
use Rattle.std.proofs.Common.{true, false, ℕ, List, length, replicate, refl, sym, ap, subst, arith}
use Rattle.std.proofs.Common.{length-append}
use Rattle.std.specs.Bool.{⊤}
use Rattle.std.specs.List.{All}
use Rattle.dma_memory.specs.Layout.{Counts, size_of}
use Rattle.descriptors.specs.Ring.{HasValidIndices, count_of}
use Rattle.descriptors.specs.declared.ring.Ring.{Ring}
use Rattle.registers.specs.Bits.{HasBit}
use Rattle.registers.specs.Places.{tctl_en}
use Rattle.eeprom.specs.Image.{HasRightSum, address_bytes}
use Rattle.mdic_phy.specs.declared.phy.Link.{Link}
use Rattle.mdic_phy.specs.declared.phy.Link.TheVariants.{Never}
use Rattle.mdic_phy.specs.Phy.{PhyState, is_complete, link_is_up}
use Rattle.rx_filter.specs.Addresses.{IsAddress}
use Rattle.adapter.specs.Registers.{new_adapter}
use Rattle.adapter.specs.State.{AdapterState, IsAdapter}
use Rattle.adapter.specs.World.{World, receive_ring, transmit_ring}
use Rattle.adapter.specs.Pasts.{Past}
use Rattle.adapter.specs.Settings.{settings_of, writes_in}
use Rattle.adapter.proofs.Lists.{all-left, all-right}
use Rattle.adapter.proofs.Settings.{writes-append}
use Rattle.adapter.specs.bus_types.event.Access.{Access}
use Rattle.adapter.specs.bus_types.bus.Bus.{Ghosts}
use Rattle.bring_up.specs.Configuration.{IsValidIn, configured_counts}
use Rattle.bring_up.specs.declared.config.Config.{Config}
use Rattle.bring_up.specs.declared.init_error.InitError.{InitError}
use Rattle.bring_up.specs.declared.init_error.InitError.TheVariants as errors
use Rattle.bring_up.specs.Device.{IsErrorOfLively}
use Rattle.bring_up.specs.Link.{NeedsMoreThan}
use Rattle.bring_up.specs.ConfiguredAdapters.{IsConfigured, names_vlans}
use Rattle.bring_up.specs.DriverSteps.{accesses_of}
use Rattle.bring_up.specs.SettingSteps.{RecordsNone}
use Rattle.bring_up.specs.WrittenRegisters.{mask_writes}
use Rattle.adapter.specs.Beginnings.{new_driver}
use Rattle.adapter.specs.DriverState.{DriverState, with_owners}
use Rattle.adapter.specs.ReadyDrivers.{Ready}
use Rattle.adapter.specs.Calls.{IsRefilled}
use Rattle.driver.specs.Initialisation.{Initialises, IsErrorOfInit, transmit_accesses}
use Rattle.bring_up.specs.Groups.{AreNamedOnce}
use Rattle.packet_socket.specs.HostCalls.{HostReady}
use Rattle.packet_socket.specs.HostState.{HostState, new_host}
use Rattle.packet_socket.specs.declared.socket_kind.SocketKind.{SocketKind}
use Rattle.adapter.specs.LivelyBuses.{IsSameMachine, Lives, machine_bytes, machine_world}
use Rattle.adapter.specs.bus_types.lively_bus.LivelyBus.{LivelyBus}
use Rattle.stations.specs.Stations.{StationState}
use Rattle.host_calls.specs.CountedHosts.{CanAnswer}
use Rattle.network_plan.specs.declared.plan.HostPlan.{HostPlan}
use Rattle.wire.specs.HostsUp.{AreOfPhy, ComesUp, HostHasNoFrames, IsReason, most_link_ticks}
use Rattle.host_calls.proofs.AdaptersStay.{adapter-ticked}
use Rattle.wire.proofs.ArrivalsAlone.{alone-stays}
use Rattle.wire.proofs.CausesOfPhy.{lives-of_phy, no-interrupt, none-told}
use Rattle.wire.proofs.OwnTicks.{IsAdapterOf, IsPhyOf}
use Rattle.wire.proofs.PlansFilters.{Controls, controls, plans-filter}

-- the ghost members of a lively bus
abbrev pub lively : Ghosts LivelyBus
lively = record {
  extent = machine_bytes;
  honest = λ bus. ⊤;
  lively = λ bus. ⊤;
  world = machine_world;
  happened = Lives;
  lent_stays = IsSameMachine;
}

-- a station on a wire, at whose end no frame waits
abbrev pub station_on : (wire : ℕ) → World → StationState
station_on wire world = record { world = world; wire = wire; backlog = [] }

-- the memory of a new machine has room for the layout of a valid configuration
pub valid-in : (config : Config) (most size : ℕ) → IsValidIn config most → size ≡ size_of (configured_counts config)
    → IsValidIn config size
valid-in config most size had is = record { counts = had.counts; numbers = had.numbers; room = omega (arith, is) }

-- the reason of an error of an initialization over a lively bus
pub reason-of : (plan : HostPlan) (world : World) (accesses : ℕ) (error : InitError) → world.adapter ≡ new_adapter plan.image plan.link
    → error ≢ errors.Config → IsErrorOfInit error world.adapter.image accesses → IsErrorOfLively error world → IsReason plan error
reason-of plan world accesses errors.Memory new valid why known = tt
reason-of plan world accesses errors.EepromTimeout new valid why known = absurd known
reason-of plan world accesses errors.Checksum new valid why known =
    subst (λ (adapter : AdapterState). ¬ (HasRightSum adapter.image)) new why
reason-of plan world accesses errors.PhyTimeout new valid why known = absurd known
reason-of plan world accesses errors.NoLink new valid why known =
    subst (λ (adapter : AdapterState). HasRightSum adapter.image × NeedsMoreThan most_link_ticks adapter.phy.link) new known
reason-of plan world accesses errors.Config new valid why known = absurd (valid refl)

valid : (ring : Ring) (count tail : ℕ) → count_of ring ≡ count → ring.head < count → ring.tail ≡ tail → tail < count → HasValidIndices ring
valid ring count tail slots head is below = record { head = omega (arith, slots, head); tail = omega (arith, slots, is, below) }

can-answer : (plan : HostPlan) (size : ℕ) (d : DriverState) (world : World) → IsValidIn plan.config size
    → d.layout ≡ configured_counts plan.config
    → Ready d world → IsConfigured plan.config (address_bytes plan.image) (settings_of world.adapter) → CanAnswer world.adapter
can-answer plan size d world had counts ready configured =
    let control = subst (Controls plan.config.promiscuous (names_vlans plan.config.vlans)) (sym configured.filter.setup.receive_control_is)
    (controls plan.config.promiscuous (names_vlans plan.config.vlans)) in
    let rx : d.layout.rx ≡ plan.config.rx = ap (λ (c : Counts). c.rx) counts in
    let tx : d.layout.tx ≡ plan.config.tx = ap (λ (c : Counts). c.tx) counts in
    record {
      receives = control.receives;
      transmits = subst (λ (word : ℕ). HasBit word tctl_en) (sym configured.transmit_control) refl;
      receive =
          valid (receive_ring world) d.layout.rx (plan.config.rx - 1) ready.receive.slots ready.receive.head_slot
          configured.receive_ring.tail_is
          (omega (arith, rx, had.counts.rx.least));
      transmit =
          valid (transmit_ring world) d.layout.tx 0 ready.transmit.knows.slots ready.transmit.knows.head_slot
          configured.transmit_ring.tail_is
          (omega (arith, tx, had.counts.tx.least));
    }

-- What is known before and after the initialization of a host.
pub record IsBroughtUp (plan : HostPlan) (old new : LivelyBus) (host : HostState) : Type 0 where
  pub size : ℕ
  pub had : IsValidIn plan.config size
  pub adapter : (machine_world old).adapter ≡ new_adapter plan.image plan.link
  pub memory : length (machine_world new).memory ≡ size_of (configured_counts plan.config)
  pub host_is : host ≡ new_host host.driver plan.sockets.items
  pub fresh : host.driver ≡ with_owners (new_driver (configured_counts plan.config) host.driver.setup host.driver.groups [])
      host.driver.buffers [] host.driver.pool []
  pub joined : AreNamedOnce plan.config.groups.items host.driver.groups
  pub refilled : IsRefilled host.driver
  pub initialises : Initialises lively plan.config old new host.driver
  pub ready : HostReady host (machine_world new)

link-comes : (link : Link) (phy : PhyState) → IsPhyOf link phy → link_is_up phy ≡ true → link ≢ Never
link-comes link phy is up = λ never.
    let down : link_is_up phy ≡ false = ap is_complete (is.never never) in
    cc

left-alone : (plan : HostPlan) (old new : LivelyBus) (host : HostState) → IsBroughtUp plan old new host
    → IsAdapterOf plan.link (machine_world new).adapter
left-alone plan old new host is =
    let init = is.initialises in
    let first = alone-stays old init.middle init.first init.reports_first in
    let later = alone-stays init.middle new init.later init.reports_later in
    later.leaves plan.link
    (first.leaves plan.link
    (subst (λ (adapter : AdapterState). IsAdapterOf plan.link adapter) (sym is.adapter) (
      record { link_is = refl; never = λ never. refl },
      record { no_descriptor = refl; none_received = refl; none_transmitted = refl },
    )))

causes-left : (plan : HostPlan) (old new : LivelyBus) (host : HostState) → IsBroughtUp plan old new host
    → AreOfPhy (machine_world new).adapter.causes.recorded
causes-left plan old new host is =
    let init = is.initialises in
    let writes = subst (All RecordsNone) (writes-append init.first.accesses init.later.accesses) init.no_cause in
    let start : AreOfPhy (machine_world old).adapter.causes.recorded =
    subst (λ (adapter : AdapterState). AreOfPhy adapter.causes.recorded) (sym is.adapter) none-told in
    let middle = lives-of_phy old init.middle init.first init.reports_first
    (all-left RecordsNone (writes_in init.first.accesses) (writes_in init.later.accesses) writes) start in
    lives-of_phy init.middle new init.later init.reports_later
    (all-right RecordsNone (writes_in init.first.accesses) (writes_in init.later.accesses) writes) middle

no-frames : (plan : HostPlan) (old new : LivelyBus) (host : HostState) (wire : ℕ) → IsBroughtUp plan old new host
    → HostHasNoFrames host (station_on wire (machine_world new))
no-frames plan old new host wire is =
    let init = is.initialises in
    let first = alone-stays old init.middle init.first init.reports_first in
    let later = alone-stays init.middle new init.later init.reports_later in
    let counts = (left-alone plan old new host is).1 in
    record {
      to_send = init.started.frames.none_to_send;
      held = init.started.frames.held ∙ later.none.none_stored;
      queues =
          ap (λ (h : HostState). h.queues) is.host_is
          ∙ ap (λ (kinds : List SocketKind). replicate (length kinds) []) (sym (ap (λ (h : HostState). h.kinds) is.host_is));
      backlog = refl;
      counts = record {
        missed = ap (λ (d : DriverState). d.missed) is.fresh;
        exact = ap (λ (d : DriverState). d.exact) is.fresh;
        missed_packets = omega (arith, init.started.frames.missed_most, later.none.none_missed);
        without_descriptor = counts.no_descriptor;
        received = counts.none_received;
        transmitted = counts.none_transmitted;
        unclaimed = ap (λ (h : HostState). h.unclaimed) is.host_is;
      };
    }

-- The EEPROM took a step before an access of the initialization, so `IsAdapter` holds.
still-adapter : (plan : HostPlan) (old new : LivelyBus) (host : HostState) → IsBroughtUp plan old new host
    → IsAdapter (machine_world new).adapter
still-adapter plan old new host is =
    let init = is.initialises in
    let lives = init.reports_later in
    let writes = transmit_accesses host.driver.layout in
    let made : length init.later.accesses ≡ length writes + length (accesses_of mask_writes) =
    ap (λ (accesses : List Access). length accesses) init.accesses.rest ∙ length-append writes (accesses_of mask_writes) in
    let one : length (accesses_of mask_writes) ≡ 1 = refl in
    let steps = ap (λ (past : Past). past.eeprom_ticks) lives.past_is in
    adapter-ticked lives.events (machine_world init.middle) (machine_world new) lives.trail
    (omega (arith, made, one, steps, lives.eeprom))

pub comes-up : (plan : HostPlan) (old new : LivelyBus) (host : HostState) (wire : ℕ) → IsBroughtUp plan old new host
    → ComesUp plan host (station_on wire (machine_world new))
comes-up plan old new host wire is =
    let init = is.initialises in
    let counts : host.driver.layout ≡ configured_counts plan.config = ap (λ (d : DriverState). d.layout) is.fresh in
    let phy = (left-alone plan old new host is).0 in
    let image : (machine_world old).adapter.image ≡ plan.image = ap (λ (adapter : AdapterState). adapter.image) is.adapter in
    let configured : IsConfigured plan.config (address_bytes plan.image) (settings_of (machine_world new).adapter) =
    subst (λ (words : List ℕ). IsConfigured plan.config (address_bytes words) (settings_of (machine_world new).adapter)) image
    init.adapter.configured in
    let address = subst (λ (words : List ℕ). IsAddress (address_bytes words)) image init.adapter.address in
    record {
      ready = record {
        ready = is.ready;
        work = init.started.work;
        refilled = is.refilled;
        offered = ap (λ (d : DriverState). d.staged) is.fresh;
        can = can-answer plan is.size host.driver (machine_world new) is.had counts init.started.ready configured;
      };
      sizes = record {
        layout = counts;
        memory = is.memory;
        kinds = ap (λ (h : HostState). h.kinds) is.host_is;
        allocation = configured.allocation;
        filter = plans-filter plan (settings_of (machine_world new).adapter) address configured;
        groups = is.joined;
        set_up = init.set_up;
        table = init.table;
      };
      devices = record {
        image = init.adapter.image ∙ image;
        sum = subst HasRightSum image init.adapter.sum;
        link_is = phy.link_is;
        comes = link-comes plan.link (machine_world new).adapter.phy phy init.adapter.up.up;
        link = init.adapter.up;
      };
      no_frames = no-frames plan old new host wire is;
      no_interrupt = no-interrupt (machine_world new) (causes-left plan old new host is) configured.mask;
      adapter = still-adapter plan old new host is;
    }
