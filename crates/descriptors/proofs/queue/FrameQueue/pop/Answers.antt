use Rattle.std.proofs.Common.{ℕ, List, ◌≡◌, ◌+◌, refl, sym, ap, ◌∙◌, arith}
use Rattle.std.specs.Prelude.{slice_get, is_some, true, false}
use Rattle.circular_buffer.specs.Buffer.{Buffer}
use Rattle.descriptors.specs.QueuedFrames.{Frames}
use Rattle.descriptors.specs.WrappedPlaces.{wrapped}
use Rattle.descriptors.proofs.InPlaces.{frames_from-drop, drop-none, some_below}
use Rattle.descriptors.proofs.queue.FrameQueue.pop.Goals as goal

pub returns-then-is_some : goal.returns-then-is_some
returns-then-is_some c =
    let queue = c.self.inside in
    let capacity : c.capacity.result ≡ queue.lengths.capacity = c.capacity.ensures.capacity
    ∙ ap (λ (b : Buffer ℕ). b.capacity) c.pop_front.ensures.items in
    let place : c.wrap.result ≡ wrapped queue.lengths.capacity (queue.first + 1) = rw (← capacity, ← c.from.ensures) c.wrap.ensures in
    let some : is_some (slice_get queue.lengths.items 0) ≡ true = ap is_some (sym c.pop_front.ensures.value) ∙ sym c.if-is_some.ensures in
    let one = some_below queue.lengths.items some in
    let frames = frames_from-drop queue.bytes.items queue.lengths.capacity queue.first queue.lengths.items
    (omega (arith, one, c.self.invariant.first, c.self.invariant.count)) c.self.invariant.count in
    rw (c.pop_front.ensures.items, ← c.self.view_is, place, frames) refl

pub returns-else-is_some : goal.returns-else-is_some
returns-else-is_some c =
    let queue = c.self.inside in
    let none : is_some (slice_get queue.lengths.items 0) ≡ false = ap is_some (sym c.pop_front.ensures.value) ∙ sym c.if-is_some.ensures in
    rw (c.pop_front.ensures.items, ← c.self.view_is)
    (ap (λ (frames : List (List ℕ)). let q : Frames = record { capacity = queue.lengths.capacity; frames = frames } in q)
    (drop-none queue.bytes.items queue.lengths.capacity queue.first queue.lengths.items none))
