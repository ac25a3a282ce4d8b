use Rattle.std.proofs.Common.{◌≡◌, ◌+◌, ◌-◌, ◌∙◌, ℕ, List, length, take, drop, fold, sym, ap, refl, arith}
use Rattle.std.specs.Prelude.{option_copied, slice_get, Some}
use Rattle.std.specs.Hash.{usize}
use Rattle.std.proofs.lemmas.Option.{get_or_from_slice_get, slice_get-get_or, slice_get_within}
use Rattle.descriptors.specs.HashedFrames.{frame_writes}
use Rattle.descriptors.specs.QueueLaws.{fed-more}
use Rattle.descriptors.specs.Packed.{PackedFrames}
use Rattle.descriptors.proofs.Cut.{frame-at, total-more, total-part}
use Rattle.descriptors.proofs.PackedLengths.{below, copied_some}
use Rattle.descriptors.proofs.packed.PackedQueue.feed.Goals as goal

pub unwrap-requires : goal.unwrap-requires
unwrap-requires g c =
    let within = below c.self.inside c.args.self.now c.loop-index.index c.self.view_is
    (omega (arith, c.len.ensures.count, c.from-count.ensures, c.loop-index-test.true)) in
    copied_some _ _ (c.get.ensures ∙ slice_get-get_or _ _ 0 within)

pub slice_bounds-frame-end : goal.slice_bounds-frame-end
slice_bounds-frame-end g c =
    let queue = c.self.inside in
    let ns = queue.lengths.items in
    let some : slice_get ns c.loop-index.index ≡ Some c.unwrap.result.now = sym c.get.ensures ∙ ap option_copied c.unwrap.ensures in
    omega (
      arith,
      total-more ns c.loop-index.index c.unwrap.result.now some,
      total-part ns (c.loop-index.index + 1),
      c.loop-index.invariant.0,
      c.from-length.ensures,
      c.self.invariant.end_is,
      c.self.invariant.fits,
      ap length c.as_slice.ensures.value,
    )

pub loop-index-preserved : goal.loop-index-preserved
loop-index-preserved g c =
    let queue = c.self.inside in
    let ns = queue.lengths.items in
    let n = c.unwrap.result.now in
    let i = c.loop-index.index in
    let write = g.H.Hasher.write in
    let frames = c.args.self.now.frames in
    let frame = take n (drop c.loop-index.start queue.bytes.items) in
    let some : slice_get ns i ≡ Some n = sym c.get.ensures ∙ ap option_copied c.unwrap.ensures in
    let more = total-more ns i n some in
    let long : c.loop-index.start + c.from-length.result - c.loop-index.start ≡ n = omega (arith, c.from-length.ensures) in
    let read = take (c.loop-index.start + c.from-length.result - c.loop-index.start) (drop c.loop-index.start c.as_slice.result.now) in
    let here : read ≡ frame =
    rw (long, c.as_slice.ensures.value) refl in
    let got : slice_get frames i ≡ Some frame =
    ap (λ (q : PackedFrames). slice_get q.frames i) (sym c.self.view_is)
    ∙ frame-at ns queue.bytes.items queue.first c.loop-index.start i n some c.loop-index.invariant.0 in
    let one_more = fed-more write frame_writes c.write_usize.new.self frames i frame
    (slice_get_within frames i frame got) (get_or_from_slice_get frames i frame frame got) in
    let first : c.write_usize-in-loop-index.new.self ≡ fold write c.loop-index.hasher (usize (length frame)) =
    c.write_usize-in-loop-index.ensures ∙ ap (λ (f : List ℕ). fold write c.loop-index.hasher (usize (length f))) here in (
      omega (arith, more, c.loop-index.invariant.0, c.from-length.ensures),
      c.write.ensures
          ∙ ap (λ (f : List ℕ). write c.write_usize-in-loop-index.new.self f) here
          ∙ ap (λ s. write s frame) (first ∙ ap (λ s. fold write s (usize (length frame))) c.loop-index.invariant.1)
          ∙ sym one_more,
    )
