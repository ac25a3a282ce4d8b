use Rattle.std.proofs.Common.{◌≡◌, ◌≤◌, ◌+◌, ℕ, Bool, false, length}
use Rattle.adapter.specs.Keeping.{Keeps}
use Rattle.adapter.specs.Calls.{IsReadyOver, Ran, at, only}
use Rattle.adapter.specs.DriverState.{DriverState, receive_slot, transmit_slot}
use Rattle.bring_up.specs.ClearedDescriptors.{clears_from}
use Rattle.bring_up.proofs.descriptors_clearing.clear_descriptors.Given as goal

abbrev pub invariant-loop-slot : goal.invariant-loop-slot
invariant-loop-slot g l = record {
  keeps : Keeps g.B.Bus l.initial.bus l.bus;
  ran : (d : DriverState) → IsReadyOver g.B.Bus false (at l.initial.bus d) → l.first ≡ transmit_slot d.layout 0 → l.slot ≤ d.layout.tx
      → Ran g.B.Bus false (only (clears_from l.first l.slot)) (at l.initial.bus d) (at l.bus d);
  spare : (up : Bool) (d : DriverState) (slot : ℕ) → IsReadyOver g.B.Bus up (at l.initial.bus d) → d.oldest_receive ≡ 0
      → length d.buffers + length d.staged ≤ slot → slot + l.slot ≤ d.layout.rx → l.first ≡ receive_slot slot
      → Ran g.B.Bus up (only (clears_from l.first l.slot)) (at l.initial.bus d) (at l.bus d);
}
