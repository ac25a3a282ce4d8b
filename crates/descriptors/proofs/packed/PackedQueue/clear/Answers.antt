use Rattle.std.proofs.Common.{refl}
use Rattle.descriptors.specs.Packed.{cut}
use Rattle.descriptors.proofs.packed.PackedQueue.clear.Goals as goal

pub returns : goal.returns
unfolding cut
returns c = rw (c.clear.ensures, ← c.self.view_is) refl
