-- Each sequence of actions at a place becomes one that is tried: from the last action to the first, each is inserted.
use Rattle.std.proofs.Common.{◌≡◌, ◌≢◌, ◌∙◌, ◌<◌, ◌≤◌, ◌∷◌, ◌&&◌, ◌||◌, []}
use Rattle.std.proofs.Common.{◌⊎◌, ℕ, Bool, List, true, false, ap, arith, inl, inr}
use Rattle.std.proofs.Common.{length, refl, subst, suc, sym}
use Rattle.std.specs.Prelude.{◌==◌, nat_le, not}
use Rattle.std.proofs.lemmas.Bool.{and_cases, and_from, and_parts, both_ways, cases_eq, eq-eqb, eqb-false, eqb-true, false_from_ne_true}
use Rattle.std.proofs.lemmas.Bool.{le-leb, leb-false, leb-true, ne_eqb, not-false, not_from_false, or_cases, or_left, or_parts, or_right}
use Rattle.std.proofs.lemmas.List.{get_or_default, get_or_past}
use Rattle.std.proofs.lemmas.List.Folds.{Any-from_list_any}
use Rattle.std.specs.List.{Any}
use Rattle.search.specs.Actions.{action_in, actor_of, are_pair, free, is_pair, none}
use Rattle.search.specs.Options.{Becomes, GoesOn, IsPairOf, IsTable, IsTried, NothingIsLeftOut, is_tried_after}
use Rattle.search.specs.Options.{below, exchanged, joined, same, then}
use Rattle.search.specs.declared.actions.Action.{Action}

abbrev no_action : Action
no_action = record { actor = free; first = none; second = none; drawn = none; group = none }

-- Two actions that the table has as a pair are parts of an action of the table.
pair_from : (actions : List Action) (first second : ℕ)
    → Any (λ (pair : Action). (pair.first == first && pair.second == second) ≡ true) actions
    → (pair : ℕ) × IsPairOf actions pair first second
pair_from actions first second any =
    let both = and_parts (any.1.first == first) (any.1.second == second) any.4 in
    let here : action_in actions any.0 ≡ any.1 =
    get_or_default actions any.0 no_action any.1 any.2 ∙ any.3 in (
      any.0,
      record {
        within = any.2;
        begins = ap (λ (pair : Action). pair.first) here ∙ eqb-true any.1.first first both.0;
        ends = ap (λ (pair : Action). pair.second) here ∙ eqb-true any.1.second second both.1;
      },
    )

pair_of : (actions : List Action) (first second : ℕ) → are_pair actions first second ≡ true
    → (pair : ℕ) × IsPairOf actions pair first second
pair_of actions first second is =
    pair_from actions first second
    (Any-from_list_any (λ (pair : Action). pair.first == first && pair.second == second) actions is)

-- An action that commutes with others has a number of the table.
some_action : (actions : List Action) → IsTable actions → (number : ℕ) → actor_of actions number ≢ free → number ≢ none
some_action actions table number may is =
    may (ap (λ (found : Action). found.actor)
    (get_or_past actions number no_action (omega (arith, table.most, is))))

-- the pair is a pair: its first action is one of the table
pair_is_pair : (actions : List Action) → IsTable actions → (pair first second : ℕ) → actor_of actions first ≢ free
    → IsPairOf actions pair first second → is_pair actions pair ≡ true
pair_is_pair actions table pair first second may of =
    not_from_false ((action_in actions pair).first == none)
    (ne_eqb (action_in actions pair).first none
    (λ is. some_action actions table first may (sym of.begins ∙ is)))

-- Why an action isn't tried after another one.
record NotAfter (actions : List Action) (last number : ℕ) : Type 0 where
  last_may : actor_of actions last ≢ free
  number_may : actor_of actions number ≢ free
  why : (actor_of actions number < actor_of actions last) ⊎ (are_pair actions last number ≡ true)

why_not : (actions : List Action) (last number : ℕ)
    → (nat_le (actor_of actions last) (actor_of actions number) ≡ false) ⊎ (not (are_pair actions last number) ≡ false)
    → (actor_of actions number < actor_of actions last) ⊎ (are_pair actions last number ≡ true)
why_not actions last number (inl is) = inl (leb-false (actor_of actions last) (actor_of actions number) is)
why_not actions last number (inr is) = inr (not-false (are_pair actions last number) is)

not_after : (actions : List Action) (last number : ℕ) → is_tried_after actions last number ≡ false
    → NotAfter actions last number
not_after actions last number is =
    let all =
    or_parts (actor_of actions last == free || actor_of actions number == free)
    (nat_le (actor_of actions last) (actor_of actions number) && not (are_pair actions last number)) is in
    let free_ones = or_parts (actor_of actions last == free) (actor_of actions number == free) all.0 in
    record {
      last_may = eqb-false (actor_of actions last) free free_ones.0;
      number_may = eqb-false (actor_of actions number) free free_ones.1;
      why =
          why_not actions last number
          (and_cases (nat_le (actor_of actions last) (actor_of actions number)) (not (are_pair actions last number)) all.1);
    }

-- An action of the same actor or a greater one is tried after another one, unless both are a pair.
after_from : (actions : List Action) (last number : ℕ) → actor_of actions last ≤ actor_of actions number
    → are_pair actions last number ≡ false → is_tried_after actions last number ≡ true
after_from actions last number most apart =
    or_right (actor_of actions last == free || actor_of actions number == free)
    (nat_le (actor_of actions last) (actor_of actions number) && not (are_pair actions last number))
    (and_from (nat_le (actor_of actions last) (actor_of actions number)) (not (are_pair actions last number))
    (le-leb (actor_of actions last) (actor_of actions number) most)
    (not_from_false (are_pair actions last number) apart))

-- After or before an action that commutes with no other, all are tried.
after_free : (actions : List Action) (last number : ℕ) → actor_of actions last ≡ free
    → is_tried_after actions last number ≡ true
after_free actions last number is =
    or_left (actor_of actions last == free || actor_of actions number == free)
    (nat_le (actor_of actions last) (actor_of actions number) && not (are_pair actions last number))
    (or_left (actor_of actions last == free) (actor_of actions number == free) (eq-eqb (actor_of actions last) free is))

-- An action of a greater actor is tried after another one.
not_pair_less : (actions : List Action) → IsTable actions → (last number : ℕ) → actor_of actions last ≢ free
    → actor_of actions last < actor_of actions number → are_pair actions last number ≡ true → ⊥
not_pair_less actions table last number may less is =
    let pair = pair_of actions last number is in
    let is' = pair_is_pair actions table pair.0 last number may pair.1 in
    let one = (table.parts pair.0 last is' (inl pair.1.begins)).1 in
    let other = (table.parts pair.0 number is' (inr pair.1.ends)).1 in
    omega (arith, one, other, less)

after_less_by : (actions : List Action) → IsTable actions → (last number : ℕ)
    → actor_of actions last < actor_of actions number
    → (actor_of actions last ≡ free) ⊎ (actor_of actions last ≡ free → ⊥) → is_tried_after actions last number ≡ true
after_less_by actions table last number less (inl is) = after_free actions last number is
after_less_by actions table last number less (inr may) =
    after_from actions last number (omega (arith, less))
    (false_from_ne_true (are_pair actions last number) (not_pair_less actions table last number may less))

after_less : (actions : List Action) → IsTable actions → (last number : ℕ)
    → actor_of actions last < actor_of actions number → is_tried_after actions last number ≡ true
after_less actions table last number less =
    after_less_by actions table last number less (cases_eq (actor_of actions last) free)

neither_free : (actions : List Action) (last number : ℕ) → actor_of actions last ≢ free → actor_of actions number ≢ free
    → ((actor_of actions last == free) ≡ true) ⊎ ((actor_of actions number == free) ≡ true) → ⊥
neither_free actions last number last_may number_may (inl is) = last_may (eqb-true (actor_of actions last) free is)
neither_free actions last number last_may number_may (inr is) = number_may (eqb-true (actor_of actions number) free is)

refused_by : (actions : List Action) (last number : ℕ) → actor_of actions last ≢ free → actor_of actions number ≢ free
    → actor_of actions number < actor_of actions last
    → ((actor_of actions last == free || actor_of actions number == free) ≡ true)
    ⊎ ((nat_le (actor_of actions last) (actor_of actions number) && not (are_pair actions last number)) ≡ true) → ⊥
refused_by actions last number last_may number_may less (inl is) =
    neither_free actions last number last_may number_may
    (or_cases (actor_of actions last == free) (actor_of actions number == free) is)
refused_by actions last number last_may number_may less (inr is) =
    let most =
    leb-true (actor_of actions last) (actor_of actions number)
    (and_parts (nat_le (actor_of actions last) (actor_of actions number)) (not (are_pair actions last number)) is).0 in
    omega (arith, most, less)

-- An action of a smaller actor isn't tried after another one, if both commute with others.
after_refused : (actions : List Action) (last number : ℕ) → is_tried_after actions last number ≡ true
    → actor_of actions last ≢ free → actor_of actions number ≢ free → actor_of actions number < actor_of actions last → ⊥
after_refused actions last number tried last_may number_may less =
    refused_by actions last number last_may number_may less
    (or_cases (actor_of actions last == free || actor_of actions number == free)
    (nat_le (actor_of actions last) (actor_of actions number) && not (are_pair actions last number)) tried)

-- An action that is tried after the second action of a pair is tried after the pair.
not_after_pair : (actions : List Action) → IsTable actions → (pair number : ℕ) → is_pair actions pair ≡ true
    → actor_of actions pair ≢ free → are_pair actions pair number ≡ true → ⊥
not_after_pair actions table pair number is may both =
    let other = pair_of actions pair number both in
    both_ways (is_pair actions pair)
    (table.parts other.0 pair (pair_is_pair actions table other.0 pair number may other.1) (inl other.1.begins)).0 is

-- from a reason why `number` isn't tried after `pair`
pair_refused : (actions : List Action) → IsTable actions → (pair second number : ℕ) → is_pair actions pair ≡ true
    → actor_of actions second ≡ actor_of actions pair → is_tried_after actions second number ≡ true
    → NotAfter actions pair number
    → (actor_of actions number < actor_of actions pair) ⊎ (are_pair actions pair number ≡ true) → ⊥
pair_refused actions table pair second number is same_actor tried not (inl less) =
    after_refused actions second number tried (subst (λ actor. actor ≢ free) (sym same_actor) not.last_may) not.number_may
    (omega (arith, less, same_actor))
pair_refused actions table pair second number is same_actor tried not (inr both) =
    not_after_pair actions table pair number is not.last_may both

after_pair_by : (actions : List Action) → IsTable actions → (pair second number : ℕ) → is_pair actions pair ≡ true
    → actor_of actions second ≡ actor_of actions pair
    → is_tried_after actions second number ≡ true → (c : Bool) → is_tried_after actions pair number ≡ c
    → is_tried_after actions pair number ≡ true
after_pair_by actions table pair second number is same_actor tried true after = after
after_pair_by actions table pair second number is same_actor tried false after =
    let not = not_after actions pair number after in
    absurd (pair_refused actions table pair second number is same_actor tried not not.why)

-- The sequences that begin with a pair, and go on as after its second action.
goes_on_after : (actions : List Action) → IsTable actions → (pair second : ℕ) (later : List ℕ) → is_pair actions pair ≡ true
    → actor_of actions second ≡ actor_of actions pair
    → GoesOn actions second later → GoesOn actions pair later
goes_on_after actions table pair second [] is same_actor goes = tt
goes_on_after actions table pair second (next ∷ later) is same_actor goes =
    after_pair_by actions table pair second next is same_actor goes (is_tried_after actions pair next) refl

-- A sequence that an action and a tried sequence after it become.
record Inserted (actions : List Action) (number : ℕ) (tail : List ℕ) : Type 0 where
  to : List ℕ
  becomes : Becomes actions (number ∷ tail) to
  tried : IsTried actions to
  short : length to ≤ suc (length tail)
  -- An action of a smaller actor, after which `tail` is tried, can stand before it.
  leads : (last : ℕ) → actor_of actions last < actor_of actions number → GoesOn actions last tail → GoesOn actions last to

insert_none : (actions : List Action) → IsTable actions → (number : ℕ) → Inserted actions number []
insert_none actions table number = record {
  to = number ∷ [];
  becomes = same (number ∷ []);
  tried = (tt, tt);
  short = omega arith;
  leads = λ last less goes. after_less actions table last number less;
}

insert_here : (actions : List Action) → IsTable actions → (number next : ℕ) (later : List ℕ)
    → IsTried actions (next ∷ later) → is_tried_after actions number next ≡ true → Inserted actions number (next ∷ later)
insert_here actions table number next later tried after = record {
  to = number ∷ next ∷ later;
  becomes = same (number ∷ next ∷ later);
  tried = (after, tried);
  short = omega arith;
  leads = λ last less goes. after_less actions table last number less;
}

insert_joined : (actions : List Action) → IsTable actions → (number next : ℕ) (later : List ℕ)
    → IsTried actions (next ∷ later) → actor_of actions number ≢ free → (pair : ℕ) → IsPairOf actions pair number next
    → Inserted actions number (next ∷ later)
insert_joined actions table number next later tried may pair of =
    let is = pair_is_pair actions table pair number next may of in
    let one = (table.parts pair number is (inl of.begins)).1 in
    let other = (table.parts pair next is (inr of.ends)).1 in
    record {
      to = pair ∷ later;
      becomes = joined number next pair later of;
      tried = (goes_on_after actions table pair next later is other tried.0, tried.1);
      short = omega arith;
      leads = λ last less goes. after_less actions table last pair (omega (arith, less, one));
    }

insert_later : (actions : List Action) → IsTable actions → (number next : ℕ) (later : List ℕ)
    → IsTried actions (next ∷ later) → actor_of actions number ≢ free → actor_of actions next ≢ free
    → actor_of actions next < actor_of actions number → Inserted actions number later
    → Inserted actions number (next ∷ later)
insert_later actions table number next later tried may next_may less further = record {
  to = next ∷ further.to;
  becomes =
      then (number ∷ next ∷ later) (next ∷ number ∷ later) (next ∷ further.to)
      (exchanged number next later (record {
        one_may = may;
        other_may = next_may;
        different = λ is. omega (arith, is, less);
      }))
      (below next (number ∷ later) further.to further.becomes);
  tried = (further.leads next less tried.0, further.tried);
  short = omega (arith, further.short);
  leads = λ last less' goes. goes;
}

insert_by : (actions : List Action) → IsTable actions → (number next : ℕ) (later : List ℕ)
    → IsTried actions (next ∷ later) → NotAfter actions number next → Inserted actions number later
    → (actor_of actions next < actor_of actions number) ⊎ (are_pair actions number next ≡ true)
    → Inserted actions number (next ∷ later)
insert_by actions table number next later tried not further (inl less) =
    insert_later actions table number next later tried not.last_may not.number_may less further
insert_by actions table number next later tried not further (inr is) =
    let pair = pair_of actions number next is in
    insert_joined actions table number next later tried not.last_may pair.0 pair.1

insert_at : (actions : List Action) → IsTable actions → (number next : ℕ) (later : List ℕ)
    → IsTried actions (next ∷ later) → Inserted actions number later → (c : Bool) → is_tried_after actions number next ≡ c
    → Inserted actions number (next ∷ later)
insert_at actions table number next later tried further true is =
    insert_here actions table number next later tried is
insert_at actions table number next later tried further false is =
    let not = not_after actions number next is in
    insert_by actions table number next later tried not further not.why

insert : (actions : List Action) → IsTable actions → (number : ℕ) (tail : List ℕ) → IsTried actions tail
    → Inserted actions number tail
insert actions table number [] tried = insert_none actions table number
insert actions table number (next ∷ later) tried =
    insert_at actions table number next later tried (insert actions table number later tried.1)
    (is_tried_after actions number next) refl

pub nothing_left_out : NothingIsLeftOut
nothing_left_out actions table [] = ([], (same [], tt, omega arith))
nothing_left_out actions table (number ∷ later) =
    let tail = nothing_left_out actions table later in
    let found = insert actions table number tail.0 tail.1.1 in (
      found.to,
      (
        then (number ∷ later) (number ∷ tail.0) found.to (below number later tail.0 tail.1.0) found.becomes,
        found.tried,
        omega (arith, found.short, tail.1.2),
      ),
    )
