use Rattle.std.proofs.Common.{◌≡◌, ◌≤◌, ◌<◌, ◌+◌, ◌++◌, ◌∷◌, [], ℕ, List, get_or, length, sym, ap, subst, take, ◌∙◌, arith}
use Rattle.std.specs.Prelude.{true, false, IsTrue}
use Rattle.std.specs.List.{Contains}
use Rattle.std.proofs.lemmas.List.{length-append}
use Rattle.bring_up.specs.Groups.{AreJoined, AreNamedOnce}
use Rattle.bring_up.proofs.JoinedLists.{joined-more, named-again, named-new}
use Rattle.bring_up.proofs.Tables.{take-more}
use Rattle.bring_up.proofs.groups.Groups.of.Goals.{then-not-contains, else-not-contains}
use Rattle.bring_up.proofs.groups.Groups.of.Goals as goal

pub invariant_of-groups-then-not-contains : goal.invariant_of-groups-then-not-contains
invariant_of-groups-then-not-contains c =
    let i = c.loop-group.group-index in
    let groups = c.groups.inside.list.items in
    let group = get_or c.args.named.now i [] in
    let most : length c.loop-group.groups ≤ i = c.loop-group.invariant.1 in
    let room : length groups < 32 = omega
    (arith, most, c.loop-group-test.true, c.requires.most, ap (λ (l : List (List ℕ)). length l) c.groups.view_is) in
    subst (λ (l : List (List ℕ)). AreJoined l) (sym c.push.ensures.items)
    (joined-more groups group c.groups.invariant room (c.requires.groups i [] c.loop-group-test.true)
    (λ has. absurd (
    let there : Contains c.loop-group.groups group = subst (λ (l : List (List ℕ)). Contains l group) c.groups.view_is has in
    let t : IsTrue c.contains.result = c.contains.ensures.is.1 there in
    let never : true ≡ false = sym t ∙ c.if-not-contains.true in cc)))

pub loop-group-preserved : goal.loop-group-preserved
loop-group-preserved c =
    let i = c.loop-group.group-index in
    let named = c.args.named.now in
    let group = get_or named i [] in
    let old = c.loop-group.groups in
    let before : AreNamedOnce (take i named) old = c.loop-group.invariant.0 in
    let most : length old ≤ i = c.loop-group.invariant.1 in
    let more = take-more named i [] c.loop-group-test.true in
    elim c.if-not-contains.branch [
      | then-not-contains w ↦
          let none : ¬ (Contains old group) = λ has. absurd (
          let t : IsTrue c.contains.result = c.contains.ensures.is.1 has in
          let never : true ≡ false = sym t ∙ w.if-not-contains.true in cc) in
          let new : w.push.new.self.items ≡ old ++ group ∷ [] =
          w.push.ensures.items ∙ ap (λ (l : List (List ℕ)). l ++ group ∷ []) c.groups.view_is in
          subst (λ (l : List (List ℕ)). AreNamedOnce (take (i + 1) named) l × (length l ≤ i + 1)) (sym (w.groups-is ∙ new)) (
            subst (λ (l : List (List ℕ)). AreNamedOnce l (old ++ group ∷ [])) more (named-new (take i named) old group before none),
            omega (arith, most, length-append old (group ∷ [])),
          )
      | else-not-contains w ↦
          let there : Contains old group = c.contains.ensures.is.0 (w.if-not-contains.false) in
          subst (λ (l : List (List ℕ)). AreNamedOnce (take (i + 1) named) l × (length l ≤ i + 1)) (sym w.groups-is)
          (subst (λ (l : List (List ℕ)). AreNamedOnce l old) more (named-again (take i named) old group before there), omega (arith, most))
    ]
