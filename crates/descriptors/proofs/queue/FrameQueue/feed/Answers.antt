use Rattle.std.proofs.Common.{fold, length, sym, ap, ◌∙◌}
use Rattle.std.proofs.lemmas.Option.{get_or_from_slice_get, slice_get_within}
use Rattle.std.specs.Hash.{usize}
use Rattle.descriptors.specs.HashedFrames.{frame_writes}
use Rattle.descriptors.specs.QueueLaws.{fed-more}
use Rattle.descriptors.proofs.queue.FrameQueue.feed.Goals as goal

pub loop-index-preserved : goal.loop-index-preserved
loop-index-preserved g c =
    let write = g.H.Hasher.write in
    let frames = c.args.self.now.frames in
    let i = c.loop-index.index in
    let frame = c.frame_at-frame.result.now in
    let one_more = fed-more write frame_writes c.write_usize.new.self frames i frame
    (slice_get_within frames i frame c.frame_at-frame.ensures.frame)
    (get_or_from_slice_get frames i frame frame c.frame_at-frame.ensures.frame) in
    let long = c.write_usize-in-loop-index.ensures ∙ ap (λ s. fold write s (usize (length frame))) c.loop-index.invariant in
    c.write.ensures ∙ ap (λ s. write s frame) long ∙ sym one_more
