use Rattle.descriptors.proofs.InPlaces.{length-frames_from, full_from_length}
use Rattle.descriptors.proofs.queue.FrameQueue.is_full.Goals as goal

pub returns : goal.returns
returns c =
    let queue = c.self.inside in
    rw (← c.self.view_is)
    (full_from_length _ _ _ c.is_full.result
    (length-frames_from queue.bytes.items queue.lengths.capacity queue.first queue.lengths.items) c.is_full.ensures)
