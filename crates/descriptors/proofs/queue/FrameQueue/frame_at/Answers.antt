use Rattle.std.proofs.Common.{◌≡◌, ◌<◌, ◌≤◌, ◌+◌, ◌-◌, ◌*◌, ◌∙◌, ℕ, List, All, length, slice_get, Some}
use Rattle.std.proofs.Common.{sym, ap, arith}
use Rattle.std.specs.Prelude.{option_copied}
use Rattle.std.proofs.lemmas.Option.{get_or_from_slice_get, slice_get-get_or}
use Rattle.descriptors.specs.QueuedFrames.{Frames}
use Rattle.descriptors.specs.QueuePlaces.{IsQueueOfPlaces, queue_of_places}
use Rattle.descriptors.specs.WrappedPlaces.{wrapped}
use Rattle.descriptors.specs.declared.queue.FrameQueue.TheInside.{Inside}
use Rattle.descriptors.proofs.InPlaces.{length-frames_from, slice_get-frames_from-at, wrapped-within}
use Rattle.descriptors.proofs.PackedLengths.{copied_some}
use Rattle.descriptors.proofs.queue.FrameQueue.frame_at.Goals as goal

below : (queue : Inside) (seen : Frames) (i : ℕ) → queue_of_places queue ≡ seen → i < length seen.frames → i < length queue.lengths.items
below queue seen i view within =
    let count = length-frames_from queue.bytes.items queue.lengths.capacity queue.first queue.lengths.items in
    let asked = rw (← view) at within in
    omega (arith, asked, count)

place : (queue : Inside) (i : ℕ) → IsQueueOfPlaces queue → i < length queue.lengths.items
    → wrapped queue.lengths.capacity (queue.first + i) < queue.lengths.capacity
place queue i whole within = wrapped-within queue.lengths.capacity (queue.first + i) (omega (arith, whole.first, whole.count, within))

short : (ns : List ℕ) (i n : ℕ) → All (λ (m : ℕ). m ≤ 1518) ns → i < length ns → slice_get ns i ≡ Some n → n ≤ 1518
short ns i n fits within is = rw (get_or_from_slice_get ns i n 0 is) at (fits i 0 within)

pub unwrap-requires : goal.unwrap-requires
unwrap-requires c =
    let within = below c.self.inside _ _ c.self.view_is c.requires in
    copied_some _ _ (c.get.ensures ∙ slice_get-get_or _ _ 0 within)

pub overflow_add-from : goal.overflow_add-from
overflow_add-from c =
    let within = below c.self.inside _ _ c.self.view_is c.requires in
    omega (arith, within, c.from.ensures, c.self.invariant.first, c.self.invariant.count, c.self.invariant.most)

pub overflow_mul-start : goal.overflow_mul-start
overflow_mul-start c =
    let within = below c.self.inside _ _ c.self.view_is c.requires in
    let one = place c.self.inside c.args.index c.self.invariant within in
    let here = rw (c.capacity.ensures.capacity, c.from.ensures) at c.wrap-place.ensures in
    omega (arith, one, here, c.self.invariant.most)

pub overflow_add-result : goal.overflow_add-result
overflow_add-result c =
    let within = below c.self.inside _ _ c.self.view_is c.requires in
    let one = place c.self.inside c.args.index c.self.invariant within in
    let here = rw (c.capacity.ensures.capacity, c.from.ensures) at c.wrap-place.ensures in
    let some = sym c.get.ensures ∙ ap option_copied c.unwrap.ensures in
    let fits = short _ _ _ c.self.invariant.fits within some in
    omega (arith, one, here, fits, c.from-length.ensures, c.self.invariant.most)

pub slice_bounds-result-end : goal.slice_bounds-result-end
slice_bounds-result-end c =
    let within = below c.self.inside _ _ c.self.view_is c.requires in
    let one = place c.self.inside c.args.index c.self.invariant within in
    let here = rw (c.capacity.ensures.capacity, c.from.ensures) at c.wrap-place.ensures in
    let some = sym c.get.ensures ∙ ap option_copied c.unwrap.ensures in
    let fits = short _ _ _ c.self.invariant.fits within some in
    omega (arith, one, here, fits, c.from-length.ensures, ap length c.as_slice.ensures.value, c.self.invariant.size)

pub returns-clause-frame : goal.returns-clause-frame
returns-clause-frame c =
    let queue = c.self.inside in
    let here = rw (c.capacity.ensures.capacity, c.from.ensures) at c.wrap-place.ensures in
    let lengths = queue.lengths.items in
    let some : slice_get lengths c.args.index ≡ Some c.unwrap.result.now = sym c.get.ensures ∙ ap option_copied c.unwrap.ensures in
    let n : c.wrap-place.result * 1518 + c.from-length.result - c.wrap-place.result * 1518
    ≡ c.unwrap.result.now = omega (arith, c.from-length.ensures) in
    rw (← c.self.view_is, n, c.as_slice.ensures.value, here)
    (slice_get-frames_from-at queue.bytes.items queue.lengths.capacity queue.first c.args.index c.unwrap.result.now lengths some)
