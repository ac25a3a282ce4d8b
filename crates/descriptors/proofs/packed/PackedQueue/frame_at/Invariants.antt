use Rattle.std.proofs.Common.{◌≡◌, ◌+◌, take}
use Rattle.descriptors.specs.Packed.{total}
use Rattle.descriptors.proofs.packed.PackedQueue.frame_at.Given as goal

abbrev pub invariant-loop-before : goal.invariant-loop-before
invariant-loop-before l = l.start ≡ l.self-inside.first + total (take l.before l.self-inside.lengths.items)
