use Rattle.std.proofs.Common.{refl, ◌≡◌, ◌+◌, ◌-◌, sym, ap, arith}
use Rattle.std.specs.Prelude.{slice_get, Some, None, drop, length}
use Rattle.descriptors.proofs.Cut.{first-in-sum, front-cut, none-cut, none-first, some-cut}
use Rattle.descriptors.proofs.packed.PackedQueue.front.Goals as goal

pub returns-in_err-front-clause-none : goal.returns-in_err-front-clause-none
returns-in_err-front-clause-none c =
    let queue = c.self.inside in
    let none : slice_get queue.lengths.items 0 ≡ None = sym c.in_err-front.ensures in
    rw (← c.self.view_is, c.from_residual.ensures)
    ((λ _. none-cut queue.lengths.items (drop queue.first queue.bytes.items) (none-first queue.lengths.items none)), (λ _. refl))

pub slice_bounds-result-end : goal.slice_bounds-result-end
slice_bounds-result-end c =
    let queue = c.self.inside in
    let some : slice_get queue.lengths.items 0 ≡ Some c.in_ok-front.field-0.now = sym c.in_ok-front.ensures in
    let part = first-in-sum queue.lengths.items c.in_ok-front.field-0.now some in
    omega (arith, part, c.from-length.ensures, ap length c.as_slice.ensures.value, c.self.invariant.end_is, c.self.invariant.fits)

pub returns-clause-none : goal.returns-clause-none
returns-clause-none c =
    let queue = c.self.inside in
    rw (← c.self.view_is) (
      (λ no. absurd (cc)),
      (λ none. absurd (some-cut queue.lengths.items (drop queue.first queue.bytes.items)
          c.in_ok-front.field-0.now (sym c.in_ok-front.ensures) none)),
    )

pub returns-clause-oldest : goal.returns-clause-oldest
returns-clause-oldest c =
    let queue = c.self.inside in
    let some : slice_get queue.lengths.items 0 ≡ Some c.in_ok-front.field-0.now = sym c.in_ok-front.ensures in
    let n : queue.first + c.from-length.result - queue.first ≡ c.in_ok-front.field-0.now = omega (arith, c.from-length.ensures) in
    rw (← c.self.view_is, n, c.as_slice.ensures.value)
    (front-cut queue.lengths.items (drop queue.first queue.bytes.items) c.in_ok-front.field-0.now some)
