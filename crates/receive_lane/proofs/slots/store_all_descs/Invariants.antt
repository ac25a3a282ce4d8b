use Rattle.std.proofs.Common.{◌≡◌, ◌<◌, ◌*◌, ℕ, length}
use Rattle.rx_engine.specs.Descriptors.{named_address}
use Rattle.receive_lane.specs.Lane.{lane_buffer}
use Rattle.receive_lane.proofs.slots.store_all_descs.Given as goal

abbrev pub invariant-loop-slot : goal.invariant-loop-slot
invariant-loop-slot l = record {
  size : length l.memory ≡ 34816;
  named : (k : ℕ) → k < l.slot → named_address l.memory (16 * k) ≡ lane_buffer k;
}
