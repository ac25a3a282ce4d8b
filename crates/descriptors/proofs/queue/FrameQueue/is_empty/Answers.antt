use Rattle.descriptors.proofs.InPlaces.{length-frames_from, empty_from_length}
use Rattle.descriptors.specs.QueuePlaces.{placed_frames}
use Rattle.descriptors.proofs.queue.FrameQueue.is_empty.Goals as goal

pub returns : goal.returns
returns c =
    let bytes = c.self.inside.bytes.items in
    let capacity = c.self.inside.lengths.capacity in
    let first = c.self.inside.first in
    let lengths = c.self.inside.lengths.items in
    rw (← c.self.view_is)
    (empty_from_length (placed_frames bytes capacity first lengths) _ c.is_empty.result
    (length-frames_from bytes capacity first lengths) c.is_empty.ensures)
