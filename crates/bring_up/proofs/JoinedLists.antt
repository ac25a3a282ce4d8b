-- Lists of groups, each once, to which a group is added or from which a group is removed.
use Rattle.std.proofs.Common.{◌≡◌, ◌<◌, ◌++◌, ◌∷◌, [], ℕ, zero, suc, List, length, inl, inr, refl, sym, ap, subst, ◌∙◌, arith}
use Rattle.std.specs.List.{Contains, remove}
use Rattle.std.specs.Prelude.{Some, slice_get}
use Rattle.std.proofs.lemmas.List.{length-append}
use Rattle.std.proofs.lemmas.List.Elements.{All-push, Contains-append_cases, Contains-append_left, Contains-append_right, Contains-push}
use Rattle.std.proofs.lemmas.List.Elements.{Contains-push_cases}
use Rattle.std.proofs.lemmas.Option.{slice_get-get_or}
use Rattle.adapter.proofs.Lists.{all-without}
use Rattle.rx_filter.specs.Addresses.{IsGroup}
use Rattle.rx_filter.specs.GroupLists.{Removes}
use Rattle.bring_up.specs.Groups.{AreJoined, AreNamedOnce, EachOnce}

pub first-there : {X : Type 0} (x : X) (later : List X) → Contains (x ∷ later) x
first-there x later = (0, omega arith, refl)

pub only-there : {X : Type 0} (x y : X) → Contains (x ∷ []) y → y ≡ x
only-there x y (zero, below, same) = sym same
only-there x y (suc k, below, same) = absurd (omega (arith, below))

-- A group is added to a list without it

once-more : (groups : List (List ℕ)) (group : List ℕ) → EachOnce groups → ¬ (Contains groups group) → EachOnce (groups ++ group ∷ [])
once-more [] group once none = ((λ has. absurd (omega (arith, has.1))), tt)
once-more (first ∷ later) group once none = (
  (λ has. elim (Contains-push_cases later group first has) [
    | inl there ↦ once.0 there
    | inr same ↦ none (subst (Contains (first ∷ later)) (sym same) (first-there first later))
  ]),
  once-more later group once.1 (λ has. none (Contains-append_right (first ∷ []) later group has)),
)

pub joined-more : (groups : List (List ℕ)) (group : List ℕ) → AreJoined groups → length groups < 32 → IsGroup group
    → ¬ (Contains groups group) → AreJoined (groups ++ group ∷ [])
joined-more groups group joined room is none = record {
  most = omega (arith, room, length-append groups (group ∷ []));
  groups_all = All-push IsGroup groups group joined.groups_all is;
  once = once-more groups group joined.once none;
}

-- A group is removed from a list

pub removed-at : (groups : List (List ℕ)) (place : ℕ) (group : List ℕ) → slice_get groups place ≡ Some group
    → Removes group groups (remove groups place)
removed-at [] place group is = absurd (cc)
removed-at (first ∷ later) zero group is =
    let same : first ≡ group = cc in
    record { before = []; after = later; had = ap (λ (x : List ℕ). x ∷ later) same; has = refl }
removed-at (first ∷ later) (suc place) group is =
    let rest = removed-at later place group is in
    record {
      before = first ∷ rest.before;
      after = rest.after;
      had = ap (λ (list : List (List ℕ)). first ∷ list) rest.had;
      has = ap (λ (list : List (List ℕ)). first ∷ list) rest.has;
    }

pub removed-had : (groups fewer : List (List ℕ)) (group : List ℕ) → Removes group groups fewer → Contains groups group
removed-had groups fewer group removes =
    subst (λ (list : List (List ℕ)). Contains list group) (sym removes.had)
    (Contains-append_right removes.before (group ∷ removes.after) group (first-there group removes.after))

once-fewer : (before after : List (List ℕ)) (group : List ℕ) → EachOnce (before ++ group ∷ after) → EachOnce (before ++ after)
once-fewer [] after group once = once.1
once-fewer (first ∷ before) after group once = (
  (λ has. once.0 (elim (Contains-append_cases before after first has) [
    | inl front ↦ Contains-append_left before (group ∷ after) first front
    | inr later ↦ Contains-append_right before (group ∷ after) first (Contains-append_right (group ∷ []) after first later)
  ])),
  once-fewer before after group once.1,
)

pub joined-fewer : (groups fewer : List (List ℕ)) (group : List ℕ) → AreJoined groups → Removes group groups fewer → AreJoined fewer
joined-fewer groups fewer group joined removes =
    let first = removes.before in
    let last = removes.after in
    let had = subst (λ (list : List (List ℕ)). AreJoined list) removes.had joined in
    subst (λ (list : List (List ℕ)). AreJoined list) (sym removes.has) (record {
      most = omega (arith, had.most, length-append first (group ∷ last), length-append first last);
      groups_all = all-without IsGroup first group last had.groups_all;
      once = once-fewer first last group had.once;
    })

-- The list contains the group at this place.
pub record StandsAt (groups : List (List ℕ)) (group : List ℕ) : Type 0 where
  pub place : ℕ
  pub below : place < length groups
  pub there : slice_get groups place ≡ Some group

pub place-from : (groups : List (List ℕ)) (group : List ℕ) → Contains groups group → StandsAt groups group
place-from groups group has = record {
  place = has.0;
  below = has.1;
  there = slice_get-get_or groups has.0 group has.1 ∙ ap (λ (x : List ℕ). Some x) has.2;
}

-- The groups of a configuration: one more group, which is new or not

pub named-new : (named groups : List (List ℕ)) (group : List ℕ) → AreNamedOnce named groups → ¬ (Contains groups group)
    → AreNamedOnce (named ++ group ∷ []) (groups ++ group ∷ [])
named-new named groups group is none = record {
  once = once-more groups group is.once none;
  same = λ x. (
    (λ has. elim (Contains-push_cases groups group x has) [
      | inl there ↦ Contains-append_left named (group ∷ []) x ((is.same x).0 there)
      | inr same ↦ subst (Contains (named ++ group ∷ [])) same (Contains-push named group)
    ]),
    (λ has. elim (Contains-push_cases named group x has) [
      | inl there ↦ Contains-append_left groups (group ∷ []) x ((is.same x).1 there)
      | inr same ↦ subst (Contains (groups ++ group ∷ [])) same (Contains-push groups group)
    ]),
  );
}

pub named-again : (named groups : List (List ℕ)) (group : List ℕ) → AreNamedOnce named groups → Contains groups group
    → AreNamedOnce (named ++ group ∷ []) groups
named-again named groups group is has = record {
  once = is.once;
  same = λ x. (
    (λ there. Contains-append_left named (group ∷ []) x ((is.same x).0 there)),
    (λ all. elim (Contains-push_cases named group x all) [
      | inl there ↦ (is.same x).1 there
      | inr same ↦ subst (Contains groups) same has
    ]),
  );
}
