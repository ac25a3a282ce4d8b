use Rattle.std.proofs.Common.{[], inl, inr, ◌≡◌, ◌<◌, ℕ, List, get_or, length, sym, ap, ◌∙◌, arith}
use Rattle.std.specs.Prelude.{Some, slice_get}
use Rattle.std.specs.Cmp.Lexicographic.{other_text, same_text}
use Rattle.std.proofs.lemmas.Bool.{cases_eq}
use Rattle.std.proofs.lemmas.Option.{get_or_from_slice_get, slice_get-get_or}
use Rattle.bring_up.proofs.JoinedLists.{place-from}
use Rattle.bring_up.proofs.groups.Groups.place_of.Goals as goal

pub returns-then-eq-clause-some : goal.returns-then-eq-clause-some
returns-then-eq-clause-some c =
    let list = c.self.inside.list.items in
    let i = c.loop-place.place in
    let below : i < length list =
    omega (arith, c.loop-place-test.true, ap (λ (l : List (List ℕ)). length l) c.deref-joined-items.ensures.0) in
    let same : get_or c.deref-joined-items.result.now i [] ≡ c.args.group.now =
    same_text (get_or c.deref-joined-items.result.now i []) c.args.group.now (sym c.if-eq.true ∙ c.eq.ensures) in
    ap (λ (l : List (List ℕ)). slice_get l i) (sym c.self.view_is)
    ∙ slice_get-get_or list i [] below
    ∙ ap (λ (x : List ℕ). Some x) (ap (λ (l : List (List ℕ)). get_or l i []) (sym c.deref-joined-items.ensures.0) ∙ same)

pub loop-place-preserved : goal.loop-place-preserved
loop-place-preserved c k below there =
    let i = c.loop-place.place in
    elim (cases_eq k i) [
      | inl here ↦
          let other = other_text (get_or c.deref-joined-items.result.now i []) c.args.group.now (sym c.if-eq.false ∙ c.eq.ensures) in
          let at_i : slice_get c.self.inside.list.items i ≡ Some c.args.group.now =
          ap (λ (l : List (List ℕ)). slice_get l i) c.self.view_is
          ∙ ap (λ (n : ℕ). slice_get c.args.self.now n) (sym here) ∙ there in
          absurd (other (ap (λ (l : List (List ℕ)). get_or l i []) c.deref-joined-items.ensures.0
          ∙ get_or_from_slice_get c.self.inside.list.items i c.args.group.now [] at_i))
      | inr before ↦ c.loop-place.invariant k (omega (arith, below, before)) there
    ]

pub returns-clause-none : goal.returns-clause-none
returns-clause-none c has =
    let from = place-from c.args.self.now c.args.group.now has in
    c.loop-place.invariant from.place
    (omega (
      arith,
      from.below,
      c.loop-place-test.false,
      c.loop-place.auto.place-end,
      ap (λ (l : List (List ℕ)). length l) c.deref-joined-items.ensures.0,
      ap (λ (l : List (List ℕ)). length l) c.self.view_is,
    )) from.there
