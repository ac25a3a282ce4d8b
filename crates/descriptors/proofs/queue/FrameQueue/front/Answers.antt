use Rattle.std.proofs.Common.{refl, ◌<◌, ◌≡◌, ◌+◌, ◌-◌, ◌*◌, sym, arith}
use Rattle.std.specs.Prelude.{slice_get, Some, None}
use Rattle.std.proofs.lemmas.Option.{slice_get_within}
use Rattle.descriptors.proofs.InPlaces.{frames_from-none, frames_from-some, slice_get-frames_from}
use Rattle.descriptors.proofs.queue.FrameQueue.front.Goals as goal

pub returns-in_err-front-clause-none : goal.returns-in_err-front-clause-none
returns-in_err-front-clause-none c =
    let queue = c.self.inside in
    let none : slice_get queue.lengths.items 0 ≡ None = sym c.in_err-front.ensures in
    rw (← c.self.view_is, c.from_residual.ensures)
    ((λ _. frames_from-none queue.bytes.items queue.lengths.capacity queue.first queue.lengths.items none), (λ _. refl))

pub returns-clause-none : goal.returns-clause-none
returns-clause-none c =
    let queue = c.self.inside in
    rw (← c.self.view_is) (
      (λ no. absurd (cc)),
      (λ none. absurd (frames_from-some queue.bytes.items queue.lengths.capacity queue.first
          c.in_ok-front.field-0.now queue.lengths.items (sym c.in_ok-front.ensures) none)),
    )

pub returns-clause-oldest : goal.returns-clause-oldest
returns-clause-oldest c =
    let queue = c.self.inside in
    let some : slice_get queue.lengths.items 0 ≡ Some c.in_ok-front.field-0.now = sym c.in_ok-front.ensures in
    let some_length = slice_get_within queue.lengths.items 0 c.in_ok-front.field-0.now some in
    let first : queue.first < queue.lengths.capacity = omega (arith, some_length, c.self.invariant.first, c.self.invariant.count) in
    let n : c.from-start.result * 1518 + c.from-length.result - c.from-start.result * 1518
    ≡ c.in_ok-front.field-0.now = omega (arith, c.from-length.ensures) in
    rw (← c.self.view_is, n, c.as_slice.ensures.value, c.from-start.ensures)
    (slice_get-frames_from queue.bytes.items queue.lengths.capacity queue.first c.in_ok-front.field-0.now queue.lengths.items first
    some)
