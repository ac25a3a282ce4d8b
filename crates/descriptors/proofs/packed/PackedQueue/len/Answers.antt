use Rattle.std.proofs.Common.{◌∙◌, sym}
use Rattle.std.specs.Prelude.{drop}
use Rattle.descriptors.proofs.Cut.{length-cut}
use Rattle.descriptors.proofs.packed.PackedQueue.len.Goals as goal

pub returns-clause-count : goal.returns-clause-count
returns-clause-count c =
    let queue = c.self.inside in
    rw (← c.self.view_is) (c.len.ensures.len ∙ sym (length-cut queue.lengths.items (drop queue.first queue.bytes.items)))
