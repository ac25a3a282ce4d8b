-- The outcomes of a call's ticks follow from counts, and both sides of the host's adapter are enabled after the call.
use Rattle.std.proofs.Common.{◌≡◌, ◌<◌, ℕ, true, List, Option, Some, length, sym, ap, subst, ◌∙◌, arith, refl, ⊎_elim}
use Rattle.std.specs.List.{All}
use Rattle.std.specs.Prelude.{IfSome}
use Rattle.std.proofs.lemmas.Bool.{eq-eqb, eqb-true}
use Rattle.registers.specs.Bits.{HasBit, is_set}
use Rattle.registers.specs.Places.{rctl_en, tctl_en}
use Rattle.dma_memory.specs.Layout.{Counts}
use Rattle.descriptors.specs.Ring.{HasValidIndices}
use Rattle.adapter.specs.Table.{register_at}
use Rattle.adapter.specs.TableLaws.{register_at-mta, register_at-there}
use Rattle.adapter.specs.World.{World, receive_ring, transmit_ring}
use Rattle.adapter.specs.model_types.offsets.TheConstants.{RDT, TDT}
use Rattle.adapter.specs.model_types.register.Register.{Register}
use Rattle.adapter.specs.model_types.register.Register.TheVariants.{Mta, Receive, Transmit}
use Rattle.adapter.specs.model_types.register.RingRegister.TheVariants.{Tail}
use Rattle.adapter.proofs.Lists.{all-weaker}
use Rattle.adapter.specs.Accesses.{IsNoReset, ResetsNothing}
use Rattle.adapter.specs.Trails.{Trail, past_of}
use Rattle.adapter.specs.bus_types.event.Access.{Access}
use Rattle.adapter.specs.bus_types.event.Access.TheVariants.{Loads, Reads, Stores, Writes}
use Rattle.adapter.specs.bus_types.event.Event.{Event}
use Rattle.stations.specs.AtomicRuns.{LeadsTo, past_at}
use Rattle.stations.specs.AtomicSteps.{AtomicStep}
use Rattle.stations.specs.Stations.{StationState, world_at}
use Rattle.adapter.proofs.Places.{place-below}
use Rattle.packet_socket.specs.HostActs.{IsGroupWrite, IsOfDriver, IsOfHost, IsTailWrite}
use Rattle.packet_socket.specs.HostCalls.{HostReady}
use Rattle.packet_socket.specs.HostState.{HostState}
use Rattle.host_calls.proofs.HostSteps.{trail-goes}
use Rattle.host_calls.proofs.TailWrites.{sides-stay}
use Rattle.host_calls.proofs.Ticks.{counts-go, fault-never-comes, ticks-answered}
use Rattle.host_calls.specs.CountedHosts.{CanAnswer, IsCounted, IsNotControl, IsNotMdic, LeavesEnabled}
use Rattle.host_calls.specs.Counts.{HostCounts, counts_of}
use Rattle.host_calls.specs.StepOutcomes.{AreAnswered, counts_at}

-- An access of a call can be counted, enables or disables neither side, and isn't a reset.
record Leaves (access : Access) : Type 0 where
  counted : IsCounted access
  enabled : LeavesEnabled access
  no_reset : IsNoReset access

leaves-register : (register : Register) (offset value : ℕ) → IsNotMdic register → IsNotControl register → ResetsNothing value register
    → register_at offset ≡ Some register → Leaves (Writes offset value)
leaves-register register offset value counted enabled resets at = record {
  counted = subst (λ (found : Option Register). IfSome found IsNotMdic) (sym at) counted;
  enabled = subst (λ (found : Option Register). IfSome found IsNotControl) (sym at) enabled;
  no_reset = subst (λ (found : Option Register). IfSome found (ResetsNothing value)) (sym at) resets;
}

tail-leaves : (counts : Counts) (offset value : ℕ) → IsTailWrite counts offset value → Leaves (Writes offset value)
tail-leaves counts offset value is =
    ⊎_elim
    (λ (receive : (offset ≡ RDT) × (value < counts.rx)).
    leaves-register (Receive Tail) offset value tt tt refl (ap register_at receive.0 ∙ register_at-there (Receive Tail) tt))
    (λ (transmit : (offset ≡ TDT) × (value < counts.tx)).
    leaves-register (Transmit Tail) offset value tt tt refl (ap register_at transmit.0 ∙ register_at-there (Transmit Tail) tt)) is

driver-leaves : (counts : Counts) (access : Access) → IsOfDriver counts access → Leaves access
driver-leaves counts (Reads offset value) is = record { counted = tt; enabled = tt; no_reset = tt }
driver-leaves counts (Writes offset value) is = tail-leaves counts offset value is
driver-leaves counts (Loads address size) is = record { counted = tt; enabled = tt; no_reset = tt }
driver-leaves counts (Stores address bytes) is = record { counted = tt; enabled = tt; no_reset = tt }

group-leaves : (access : Access) → IsGroupWrite access → Leaves access
group-leaves (Writes offset value) is =
    leaves-register (Mta is.word) offset value tt tt refl (ap register_at is.is ∙ register_at-mta is.word is.below)
group-leaves access is = absurd is

host-leaves : (counts : Counts) (access : Access) → IsOfHost counts access → Leaves access
host-leaves counts access is =
    ⊎_elim (λ (own : IsOfDriver counts access). driver-leaves counts access own)
    (λ (group : IsGroupWrite access). group-leaves access group) is

all-counted : (counts : Counts) (accesses : List Access) → All (IsOfHost counts) accesses → All IsCounted accesses
all-counted counts accesses own =
    all-weaker (IsOfHost counts) IsCounted accesses (λ access is. (host-leaves counts access is).counted) own

-- Heads and tails of the rings of a driver that is ready are indices of slots

pub receive-valid : (h : HostState) (world : World) → HostReady h world → HasValidIndices (receive_ring world)
receive-valid h world ready =
    let d = h.driver in
    let knows = ready.ready.receive in
    let tail = place-below d.layout.rx d.oldest_receive (length d.buffers) ready.ready.driver_is.oldest_slot in
    record { head = omega (arith, knows.head_slot, knows.slots); tail = omega (arith, tail, knows.last, knows.slots) }

pub transmit-valid : (h : HostState) (world : World) → HostReady h world → HasValidIndices (transmit_ring world)
transmit-valid h world ready =
    let d = h.driver in
    let up = ready.ready.transmit in
    let tail = place-below d.layout.tx d.oldest_transmit d.sending up.oldest_slot in
    record { head = omega (arith, up.knows.head_slot, up.knows.slots); tail = omega (arith, tail, up.knows.last, up.knows.slots) }

-- Both sides remain enabled in a call

bit-set : (value place : ℕ) → HasBit value place → is_set value place ≡ true
bit-set value place = eq-eqb _ _

pub set-bit : (value place : ℕ) → is_set value place ≡ true → HasBit value place
set-bit value place = eqb-true _ _

pub can-behind : (events : List Event) (a b : World) (counts : Counts) (h : HostState) → CanAnswer a.adapter → Trail events a b
    → All (IsOfHost counts) (past_of events).accesses → HostReady h b → CanAnswer b.adapter
can-behind events a b counts h can trail own ready =
    let goes = trail-goes events a b (all-counted counts (past_of events).accesses own) trail in
    let enabled = sides-stay events (counts_of a.adapter)
    (all-weaker (IsOfHost counts) LeavesEnabled (past_of events).accesses (λ access is. (host-leaves counts access is).enabled) own) in
    record {
      receives = set-bit b.adapter.filter.rctl rctl_en
          (ap (λ (c : HostCounts). c.receive.is_enabled) goes ∙ enabled.0 ∙ bit-set a.adapter.filter.rctl rctl_en can.receives);
      transmits = set-bit b.adapter.transmit_control tctl_en
          (ap (λ (c : HostCounts). c.transmit.is_enabled) goes ∙ enabled.1 ∙ bit-set a.adapter.transmit_control tctl_en can.transmits);
      receive = receive-valid h b ready;
      transmit = transmit-valid h b ready;
    }

-- No step is a fault, because no access of a call is a reset, and both engines run at the end.

pub host-ticks : (caller k : ℕ) (steps : List AtomicStep) (a b : List StationState) (h : HostState) (counts : Counts)
    → LeadsTo caller steps a b → All (IsOfHost counts) (past_at k steps).accesses → HostReady h (world_at b k) → AreAnswered k a steps
host-ticks caller k steps a b h counts leads own ready =
    let runs = ready.ready.law.runs in
    ticks-answered caller k steps a b leads (all-counted counts (past_at k steps).accesses own)
    (fault-never-comes caller k steps a b leads
    (all-weaker (IsOfHost counts) IsNoReset (past_at k steps).accesses (λ access is. (host-leaves counts access is).no_reset) own)
    (record { receiver = runs.receiver_runs; transmitter = runs.transmitter_runs }))

pub host-counts : (caller k : ℕ) (steps : List AtomicStep) (a b : List StationState) (counts : Counts)
    → LeadsTo caller steps a b → All (IsOfHost counts) (past_at k steps).accesses
    → counts_of (world_at b k).adapter ≡ counts_at a steps k
host-counts caller k steps a b counts leads own = counts-go caller k steps a b leads (all-counted counts (past_at k steps).accesses own)
