use Rattle.std.proofs.Common.{◌∙◌, sym}
use Rattle.descriptors.proofs.InPlaces.{length-frames_from}
use Rattle.descriptors.proofs.queue.FrameQueue.len.Goals as goal

pub returns-clause-count : goal.returns-clause-count
returns-clause-count c =
    let queue = c.self.inside in
    rw (← c.self.view_is) (c.len.ensures.len
    ∙ sym (length-frames_from queue.bytes.items queue.lengths.capacity queue.first queue.lengths.items))
