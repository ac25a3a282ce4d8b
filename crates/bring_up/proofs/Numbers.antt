-- The numbers of a list of groups to which a group is added or from which a group is removed, and the group table.
use Rattle.std.proofs.Common.{◌≡◌, ◌⊎◌, ◌↔◌, ◌<◌, ◌+◌, ◌*◌, ◌/◌, ◌%◌, ◌++◌, ◌∷◌, [], ℕ, List, get_or, length, inl, inr, sym, ap, subst}
use Rattle.std.proofs.Common.{◌∙◌, arith}
use Rattle.std.specs.List.{Contains}
use Rattle.std.specs.Prelude.{Some, slice_get, slice_index, slice_set}
use Rattle.std.proofs.lemmas.Bool.{cases_eq}
use Rattle.std.proofs.lemmas.List.{append-nil, get_or-map, get_or-set_other, get_or-set_same, length-map, length-set, map-append}
use Rattle.std.proofs.lemmas.List.Elements.{Contains-append_cases, Contains-append_left, Contains-append_right, Contains-get_or}
use Rattle.std.proofs.lemmas.Nat.{mod_below}
use Rattle.std.proofs.lemmas.Option.{slice_get-get_or}
use Rattle.registers.specs.Bits.{HasBit}
use Rattle.rx_filter.specs.GroupLists.{Removes}
use Rattle.rx_filter.specs.NumberTables.{HasNumbers, numbers_of_groups}
use Rattle.bring_up.specs.Groups.{AreNamedOnce, HasNumber, IsWord, group_number_of}
use Rattle.bring_up.proofs.JoinedLists.{first-there, only-there}

-- The list `big` contains the numbers of `small` and the number `added`, and no others.
pub record IsOneMore (added : ℕ) (small big : List ℕ) : Type 0 where
  pub out : (n : ℕ) → Contains big n → Contains small n ⊎ (n ≡ added)
  pub keeps : (n : ℕ) → Contains small n → Contains big n
  pub here : Contains big added

pub added-between : (before after : List ℕ) (x : ℕ) → IsOneMore x (before ++ after) (before ++ x ∷ after)
added-between before after x = record {
  out = λ n has. elim (Contains-append_cases before (x ∷ after) n has) [
    | inl front ↦ inl (Contains-append_left before after n front)
    | inr back ↦ elim (Contains-append_cases (x ∷ []) after n back) [
      | inl here ↦ inr (only-there x n here)
      | inr later ↦ inl (Contains-append_right before after n later)
    ]
  ];
  keeps = λ n has. elim (Contains-append_cases before after n has) [
    | inl front ↦ Contains-append_left before (x ∷ after) n front
    | inr later ↦ Contains-append_right before (x ∷ after) n (Contains-append_right (x ∷ []) after n later)
  ];
  here = Contains-append_right before (x ∷ after) x (first-there x after);
}

group-added : (groups : List (List ℕ)) (group : List ℕ)
    → IsOneMore (group_number_of group) (numbers_of_groups groups) (numbers_of_groups (groups ++ group ∷ []))
group-added groups group =
    let k = group_number_of group in
    let all : numbers_of_groups groups ++ k ∷ [] ≡ numbers_of_groups (groups ++ group ∷ []) =
    sym (map-append group_number_of groups (group ∷ [])) in
    subst (IsOneMore k (numbers_of_groups groups)) all
    (subst (λ (small : List ℕ). IsOneMore k small (numbers_of_groups groups ++ k ∷ [])) (append-nil (numbers_of_groups groups))
    (added-between (numbers_of_groups groups) [] k))

group-removed : (groups fewer : List (List ℕ)) (group : List ℕ) → Removes group groups fewer
    → IsOneMore (group_number_of group) (numbers_of_groups fewer) (numbers_of_groups groups)
group-removed groups fewer group removes =
    let k = group_number_of group in
    let first = numbers_of_groups removes.before in
    let last = numbers_of_groups removes.after in
    let big : first ++ k ∷ last ≡ numbers_of_groups groups =
    sym (map-append group_number_of removes.before (group ∷ removes.after)) ∙ sym (ap numbers_of_groups removes.had) in
    let small : first ++ last ≡ numbers_of_groups fewer =
    sym (map-append group_number_of removes.before removes.after) ∙ sym (ap numbers_of_groups removes.has) in
    subst (IsOneMore k (numbers_of_groups fewer)) big
    (subst (λ (list : List ℕ). IsOneMore k list (first ++ k ∷ last)) small (added-between first last k))

pub numbers-alike : {table old new : List ℕ} → ((n : ℕ) → Contains old n ↔ Contains new n) → HasNumbers table old → HasNumbers table new
numbers-alike {table} {old} {new} same holds = record {
  words = holds.words;
  bits = λ n below. (λ bit. (same n).0 ((holds.bits n below).0 bit), λ there. (holds.bits n below).1 ((same n).1 there));
}

-- Where the number is in `small` already, and everywhere else, both lists contain the same numbers.
one-more-alike : {small big : List ℕ} {k : ℕ} (n : ℕ) → IsOneMore k small big → (n ≡ k → Contains small k)
    → Contains small n ↔ Contains big n
one-more-alike {small} n more has = (
  (λ there. more.keeps n there),
  (λ there. elim (more.out n there) [
    | inl old ↦ old
    | inr same ↦ subst (Contains small) (sym same) (has same)
  ]),
)

-- The joined groups change from `groups` to `groups'` by one group, while the groups `kept` remain joined.
pub record ChangesOne (kept : List (List ℕ)) (group : List ℕ) (groups groups' : List (List ℕ)) : Type 0 where
  pub alike : (n : ℕ) → (n ≡ group_number_of group → HasNumber kept group)
      → Contains (numbers_of_groups groups) n ↔ Contains (numbers_of_groups groups') n

pub joins-one : (groups : List (List ℕ)) (group : List ℕ) → ChangesOne groups group groups (groups ++ group ∷ [])
joins-one groups group = record { alike = λ n has. one-more-alike n (group-added groups group) has }

pub leaves-one : {groups fewer : List (List ℕ)} {group : List ℕ} → Removes group groups fewer → ChangesOne fewer group groups fewer
leaves-one {groups} {fewer} {group} removes = record {
  alike = λ n has. let both = one-more-alike n (group-removed groups fewer group removes) has in (both.1, both.0);
}

pub word-of-table : (table numbers : List ℕ) (w : ℕ) → w < 128 → HasNumbers table numbers → IsWord w numbers (slice_index table w)
word-of-table table numbers w within holds = λ place below.
    let n = w * 32 + place in
    let q : n / 32 ≡ w = omega (arith, below) in
    let r : n % 32 ≡ place = omega (arith, below) in
    let both = holds.bits n (omega (arith, within, below)) in
    rw (q, r) at both

pub word-written : (table old new : List ℕ) (w value : ℕ) → w < 128 → HasNumbers table old → IsWord w new value
    → ((n : ℕ) → (n / 32 ≡ w → ⊥) → Contains old n ↔ Contains new n) → HasNumbers (slice_set table w value) new
word-written table old new w value within holds word same = record {
  words = length-set table w value ∙ holds.words;
  bits = λ n below. elim (cases_eq (n / 32) w) [
    | inl here ↦
        let inside : w < length table = omega (arith, within, holds.words) in
        let stands : slice_index (slice_set table w value) (n / 32) ≡ value =
        ap (slice_index (slice_set table w value)) here ∙ get_or-set_same table w value 0 inside in
        let is : w * 32 + n % 32 ≡ n = omega (arith, here) in
        let bit = word (n % 32) (omega arith) in
        subst (λ (v : ℕ). HasBit v (n % 32) ↔ Contains new n) (sym stands)
        (subst (λ (m : ℕ). HasBit value (n % 32) ↔ Contains new m) is bit)
    | inr other ↦
        let stands : slice_index (slice_set table w value) (n / 32) ≡ slice_index table (n / 32) =
        get_or-set_other table w (n / 32) value 0 other in
        let before = holds.bits n below in
        let alike = same n other in
        subst (λ (v : ℕ). HasBit v (n % 32) ↔ Contains new n) (sym stands)
        ((λ bit. alike.0 (before.0 bit)), (λ there. before.1 (alike.1 there)))
  ];
}

pub word_below : (group : List ℕ) → group_number_of group / 32 < 128
word_below group = let fits : group_number_of group < 4096 = mod_below _ 4096 (omega arith) in omega (arith, fits)

-- The group at this place of the list has the same number as `group`.
pub record HasNumberAt (groups : List (List ℕ)) (group : List ℕ) : Type 0 where
  pub place : ℕ
  pub joined : List ℕ
  pub below : place < length groups
  pub there : slice_get groups place ≡ Some joined
  pub same : group_number_of joined ≡ group_number_of group

pub number-from : (groups : List (List ℕ)) (group : List ℕ) → Contains (numbers_of_groups groups) (group_number_of group)
    → HasNumberAt groups group
number-from groups group has =
    let inside : has.0 < length groups = omega (arith, has.1, length-map groups group_number_of) in
    let joined = get_or groups has.0 [] in
    record {
      place = has.0;
      joined = joined;
      below = inside;
      there = slice_get-get_or groups has.0 [] inside;
      same = sym (get_or-map group_number_of groups has.0 [] (group_number_of group) inside) ∙ has.2;
    }

-- The groups of a configuration, each once, have the same numbers

mapped-there : (groups : List (List ℕ)) (group : List ℕ) → Contains groups group
    → Contains (numbers_of_groups groups) (group_number_of group)
mapped-there groups group has = (
  has.0,
  omega (arith, has.1, length-map groups group_number_of),
  get_or-map group_number_of groups has.0 group (group_number_of group) has.1 ∙ ap group_number_of has.2,
)

mapped-from : (groups : List (List ℕ)) (n : ℕ) → Contains (numbers_of_groups groups) n
    → ((group : List ℕ) × (Contains groups group × (group_number_of group ≡ n)))
mapped-from groups n has =
    let below : has.0 < length groups = omega (arith, has.1, length-map groups group_number_of) in (
      get_or groups has.0 [],
      (Contains-get_or groups has.0 [] below, sym (get_or-map group_number_of groups has.0 [] n below) ∙ has.2),
    )

numbers-there : (xs ys : List (List ℕ)) → ((x : List ℕ) → Contains xs x → Contains ys x) → (n : ℕ) → Contains (numbers_of_groups xs) n
    → Contains (numbers_of_groups ys) n
numbers-there xs ys all n has =
    let from = mapped-from xs n has in
    subst (Contains (numbers_of_groups ys)) from.1.1 (mapped-there ys from.0 (all from.0 from.1.0))

pub same-numbers : (table : List ℕ) (named groups : List (List ℕ)) → AreNamedOnce named groups
    → HasNumbers table (numbers_of_groups named) → HasNumbers table (numbers_of_groups groups)
same-numbers table named groups is =
    numbers-alike (λ n. (numbers-there named groups (λ x. (is.same x).1) n, numbers-there groups named (λ x. (is.same x).0) n))
