use Rattle.std.proofs.Common.{ℕ, List, length, ap, arith}
use Rattle.std.specs.Prelude.{false, IsTrue}
use Rattle.bring_up.proofs.Numbers.{number-from}
use Rattle.bring_up.proofs.groups.Groups.has_number.Goals as goal

nothing-true : IsTrue false → ⊥
nothing-true never = absurd (cc)

pub returns : goal.returns
returns c = (
  (λ never. absurd (nothing-true never)),
  (λ has.
      let from = number-from c.args.self.now c.args.group.now has in
      absurd (c.loop-joined.invariant from.place from.joined
      (omega (
        arith,
        from.below,
        c.loop-joined-test.false,
        c.loop-joined.auto.joined-index-end,
        ap (λ (l : List (List ℕ)). length l) c.as_slice-joined-items.ensures.value,
        ap (λ (l : List (List ℕ)). length l) c.self.view_is,
      )) from.there from.same)),
)
