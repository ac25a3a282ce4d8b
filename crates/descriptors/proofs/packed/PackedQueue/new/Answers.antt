use Rattle.std.proofs.Common.{rules}
use Rattle.descriptors.specs.Packed.{cut}
use Rattle.descriptors.proofs.packed.PackedQueue.new.Goals as goal

pub returns : goal.returns
unfolding cut
returns c = record { empty = search rules }
