-- Which action goes first, over a loop.
use Rattle.std.proofs.Common.{◌≡◌, ◌≢◌, ◌∙◌, ◌+◌, ◌<◌, ◌≤◌, ◌&&◌, ◌||◌, ◌⊎◌, ℕ, Bool}
use Rattle.std.proofs.Common.{List, true, false, ap, arith, inl, inr, length, min, refl, subst, sym}
use Rattle.std.specs.Prelude.{◌==◌, nat_le, nat_lt}
use Rattle.std.proofs.lemmas.Bool.{and_cases, and_parts, both_ways, cases_lt, eqb-false, eqb-true, leb-false, leb-true}
use Rattle.std.proofs.lemmas.Bool.{ltb-true, or_cases, or_parts}
use Rattle.std.proofs.lemmas.List.{get_or_past}
use Rattle.std.specs.Int.{bit_at}
use Rattle.search.specs.Actions.{action_in, is_possible, none}
use Rattle.search.specs.Draws.{GoesBefore, group_of, is_waiting, priority_of, takes_over}
use Rattle.search.specs.declared.actions.Action.{Action}
use Rattle.search.specs.declared.priorities.Priorities.{Priorities}

-- the loop of `first_ready`, before action `number`
pub record Best (priorities : Priorities) (actions : List Action) (possible count number first : ℕ) : Type 0 where
  pub found : first ≢ none → (is_waiting actions possible count first ≡ true) × (first < number)
  pub highest : (other : ℕ) → other < number → is_waiting actions possible count other ≡ true
      → (first ≢ none) × GoesBefore priorities actions other first

pub best-none : (priorities : Priorities) (actions : List Action) (possible count : ℕ)
    → Best priorities actions possible count 0 none
best-none priorities actions possible count = record {
  found = λ some. absurd (some refl);
  highest = λ other less is. absurd (omega (arith, less));
}

below_or_last : (other number : ℕ) → other < number + 1 → (other < number) ⊎ (other ≡ number)
below_or_last other number less = grind (arith, less)

over_none : (priorities : Priorities) (actions : List Action) (number other first : ℕ)
    → ((first == none) ≡ true)
    ⊎ (nat_le (priority_of priorities actions first) (priority_of priorities actions number) ≡ true)
    → (first ≢ none) × GoesBefore priorities actions other first → other < number
    → GoesBefore priorities actions other number
over_none priorities actions number other first (inl is) before less = absurd (before.0 (eqb-true first none is))
over_none priorities actions number other first (inr is) before less =
    let most =
    leb-true (priority_of priorities actions first) (priority_of priorities actions number) is in
    record {
      priority = omega (arith, most, before.1.priority);
      number = λ same. omega (arith, less);
    }

highest-yes : (priorities : Priorities) (actions : List Action) (possible count number first other : ℕ)
    → Best priorities actions possible count number first → number < none
    → ((first == none) ≡ true)
    ⊎ (nat_le (priority_of priorities actions first) (priority_of priorities actions number) ≡ true)
    → (other < number) ⊎ (other ≡ number) → is_waiting actions possible count other ≡ true
    → (number ≢ none) × GoesBefore priorities actions other number
highest-yes priorities actions possible count number first other best within over (inl less) is = (
  λ same. omega (arith, same, within),
  over_none priorities actions number other first over (best.highest other less is) less,
)
highest-yes priorities actions possible count number first other best within over (inr same) is = (
  λ same'. omega (arith, same', within),
  subst (λ n. GoesBefore priorities actions n number) (sym same)
      (record { priority = omega arith; number = λ _. omega arith }),
)

pub best-yes : (priorities : Priorities) (actions : List Action) (possible count number first : ℕ)
    → Best priorities actions possible count number first → number < none
    → takes_over priorities actions possible count first number ≡ true
    → Best priorities actions possible count (number + 1) number
best-yes priorities actions possible count number first best within takes =
    let over : Bool =
    first == none || nat_le (priority_of priorities actions first) (priority_of priorities actions number) in
    let parts = and_parts (is_waiting actions possible count number) over takes in
    record {
      found = λ some. (parts.0, omega arith);
      highest = λ other less is.
          highest-yes priorities actions possible count number first other best within
          (or_cases (first == none)
          (nat_le (priority_of priorities actions first) (priority_of priorities actions number)) parts.1)
          (below_or_last other number less) is;
    }

stays : (priorities : Priorities) (actions : List Action) (number first : ℕ)
    → (first == none || nat_le (priority_of priorities actions first) (priority_of priorities actions number)) ≡ false
    → (first ≢ none) × GoesBefore priorities actions number first
stays priorities actions number first is =
    let parts =
    or_parts (first == none)
    (nat_le (priority_of priorities actions first) (priority_of priorities actions number)) is in
    let less = leb-false (priority_of priorities actions first) (priority_of priorities actions number) parts.1 in (
      eqb-false first none parts.0,
      record {
        priority = omega (arith, less);
        number = λ same. absurd (omega (arith, same, less));
      },
    )

stays_by : (priorities : Priorities) (actions : List Action) (possible count number first : ℕ)
    → (is_waiting actions possible count number ≡ false)
    ⊎ ((first == none || nat_le (priority_of priorities actions first) (priority_of priorities actions number)) ≡ false)
    → is_waiting actions possible count number ≡ true → (first ≢ none) × GoesBefore priorities actions number first
stays_by priorities actions possible count number first (inl not) is =
    absurd (both_ways (is_waiting actions possible count number) not is)
stays_by priorities actions possible count number first (inr not) is = stays priorities actions number first not

highest-no : (priorities : Priorities) (actions : List Action) (possible count number first other : ℕ)
    → Best priorities actions possible count number first
    → takes_over priorities actions possible count first number ≡ false → (other < number) ⊎ (other ≡ number)
    → is_waiting actions possible count other ≡ true → (first ≢ none) × GoesBefore priorities actions other first
highest-no priorities actions possible count number first other best takes (inl less) is = best.highest other less is
highest-no priorities actions possible count number first other best takes (inr same) is =
    subst (λ n. (first ≢ none) × GoesBefore priorities actions n first) (sym same)
    (stays_by priorities actions possible count number first
    (and_cases (is_waiting actions possible count number)
    (first == none || nat_le (priority_of priorities actions first) (priority_of priorities actions number)) takes)
    (ap (λ n. is_waiting actions possible count n) (sym same) ∙ is))

pub best-no : (priorities : Priorities) (actions : List Action) (possible count number first : ℕ)
    → Best priorities actions possible count number first
    → takes_over priorities actions possible count first number ≡ false
    → Best priorities actions possible count (number + 1) first
best-no priorities actions possible count number first best takes = record {
  found = λ some. ((best.found some).0, omega (arith, (best.found some).1));
  highest = λ other less is.
      highest-no priorities actions possible count number first other best takes (below_or_last other number less) is;
}

-- An action that would do something is one of the table, below 64.
abbrev no_action : Action
no_action = record { actor = none; first = none; second = none; drawn = none; group = none }

in_table : (actions : List Action) (number : ℕ) → (action_in actions number).drawn ≡ 0
    → (number < length actions) ⊎ (length actions ≤ number) → number < length actions
in_table actions number is (inl less) = less
in_table actions number is (inr over) =
    absurd (omega (arith, is, ap (λ (found : Action). found.drawn) (get_or_past actions number no_action over)))

pub waiting_within : (actions : List Action) (possible count other : ℕ)
    → is_waiting actions possible count other ≡ true → other < min (length actions) 64
waiting_within actions possible count other is =
    let low : Bool = is_possible possible other in
    let engine : Bool = (action_in actions other).drawn == 0 in
    let grouped : Bool = nat_lt 0 (group_of actions other) in
    let one = and_parts (low && engine && grouped) (nat_lt (group_of actions other) count) is in
    let two = and_parts (low && engine) grouped one.0 in
    let three = and_parts low engine two.0 in
    let below = ltb-true other 64 (and_parts (nat_lt other 64) (bit_at possible other == 1) three.0).0 in
    let known =
    in_table actions other (eqb-true (action_in actions other).drawn 0 three.1) (cases_lt other (length actions)) in
    omega (arith, below, known)
