-- The list of schedules contains each schedule once.
use Rattle.std.proofs.Common.{◌≡◌, ◌≢◌, ◌∙◌, ◌+◌, ◌-◌, ◌<◌, ◌≤◌, ◌++◌, ◌∷◌, [], ◌⊎◌, ℕ, List, Option, None, Some, ap, arith, inl, inr}
use Rattle.std.proofs.Common.{length, refl, reverse, subst, suc, sym, zero}
use Rattle.std.proofs.lemmas.Bool.Decides.{nat_tests}
use Rattle.std.proofs.lemmas.List.{append_assoc, append_cancel_right, reverse-append, reverse-reverse}
use Rattle.std.proofs.lemmas.List.Elements.{All-append, All-cons, All-head, All-nil, All-tail, All-weaker, Contains-append_left}
use Rattle.std.proofs.lemmas.List.Elements.{Contains-append_right, Contains-push}
use Rattle.std.specs.List.{All, Contains}
use Rattle.search.specs.Orders.{AreDifferent, IsWithin, ListsAll, below, schedules, schedules_at}
use Rattle.search.specs.Searches.{first_choice}
use Rattle.search.specs.Tests.{IsSchedule, MayTake, Test, left_after, played}
use Rattle.search.specs.declared.path.Place.{Place}

-- Each schedule is in the list.

is_within : (test : Test) (cost room left : ℕ) (run later : List ℕ) → IsSchedule test cost left run later
    → length later ≤ room → IsWithin test cost room left run later
is_within test cost zero left run [] schedule short = refl
is_within test cost zero left run (number ∷ later) schedule short = absurd (omega (arith, short))
is_within test cost (suc room) left run [] schedule short = schedule
is_within test cost (suc room) left run (number ∷ later) schedule short = (
  schedule.0,
  (
    schedule.1.0,
    schedule.1.1,
    is_within test cost room (left_after cost left schedule.0.possible number) (number ∷ run) later schedule.1.2
        (omega (arith, short)),
  ),
)

here_or_later : (first number : ℕ) → first ≤ number → (first ≡ number) ⊎ (first + 1 ≤ number)
here_or_later first number least = grind (arith, least)

below_has : (all : ℕ → List ℕ → List (List ℕ)) (cost left possible : ℕ) (run : List ℕ) (first count number : ℕ) (schedule : List ℕ)
    → (first ≡ number) ⊎ (first + 1 ≤ number) → number < first + count
    → Contains (all (left_after cost left possible number) (number ∷ run)) schedule
    → Contains (below all cost left possible run first count) schedule
below_has all cost left possible run first zero number schedule (inl is) most has = absurd (omega (arith, is, most))
below_has all cost left possible run first zero number schedule (inr least) most has = absurd (omega (arith, least, most))
below_has all cost left possible run first (suc count) number schedule (inl is) most has =
    Contains-append_left (all (left_after cost left possible first) (first ∷ run))
    (below all cost left possible run (first + 1) count) schedule
    (subst (λ here. Contains (all (left_after cost left possible here) (here ∷ run)) schedule) (sym is) has)
below_has all cost left possible run first (suc count) number schedule (inr least) most has =
    Contains-append_right (all (left_after cost left possible first) (first ∷ run))
    (below all cost left possible run (first + 1) count) schedule
    (below_has all cost left possible run (first + 1) count number schedule (here_or_later (first + 1) number least)
    (omega (arith, most)) has)

from_first : (cost left : ℕ) (place : Place) (number : ℕ) → MayTake cost left place.possible number
    → (first_choice cost left place).taken ≤ number
from_first cost left place number (inl is) = grind (arith, nat_tests, is)
from_first cost left place number (inr may) = grind (arith, nat_tests, may)

up_to_last : (cost left : ℕ) (place : Place) (number : ℕ) → MayTake cost left place.possible number
    → number < (first_choice cost left place).taken + suc (place.possible - (first_choice cost left place).taken)
up_to_last cost left place number (inl is) = omega (arith, is)
up_to_last cost left place number (inr may) = omega (arith, may.0)

each_within : (test : Test) (cost room left : ℕ) (run later : List ℕ) → IsWithin test cost room left run later
    → Contains (schedules test cost room left run) (played run later)
each_within test cost zero left run later within =
    subst (λ numbers. Contains (run ∷ []) (played run numbers)) (sym within) (Contains-push [] run)
each_within test cost (suc room) left run [] within =
    subst (λ found. Contains (schedules_at (schedules test cost room) cost left run found) run) (sym within)
    (Contains-push [] run)
each_within test cost (suc room) left run (number ∷ later) within =
    let place : Place = within.0 in
    subst (λ found. Contains (schedules_at (schedules test cost room) cost left run found) (played (number ∷ run) later))
    (sym within.1.0)
    (below_has (schedules test cost room) cost left place.possible run (first_choice cost left place).taken
    (suc (place.possible - (first_choice cost left place).taken)) number (played (number ∷ run) later)
    (here_or_later (first_choice cost left place).taken number (from_first cost left place number within.1.1))
    (up_to_last cost left place number within.1.1)
    (each_within test cost room (left_after cost left place.possible number) (number ∷ run) later within.1.2))

each : (test : Test) (cost room left : ℕ) (run later : List ℕ) → IsSchedule test cost left run later
    → length later ≤ room → Contains (schedules test cost room left run) (played run later)
each test cost room left run later schedule short =
    each_within test cost room left run later (is_within test cost room left run later schedule short)

-- Only schedules are in the list.

below_only : (P : List ℕ → Type 0) (all : ℕ → List ℕ → List (List ℕ)) (cost left possible : ℕ) (run : List ℕ) (first count : ℕ)
    → ((number : ℕ) → first ≤ number → number < first + count → All P (all (left_after cost left possible number) (number ∷ run)))
    → All P (below all cost left possible run first count)
below_only P all cost left possible run first zero each = All-nil P
below_only P all cost left possible run first (suc count) each =
    All-append P (all (left_after cost left possible first) (first ∷ run)) (below all cost left possible run (first + 1) count)
    (each first (omega arith) (omega arith))
    (below_only P all cost left possible run (first + 1) count
    (λ number least most. each number (omega (arith, least)) (omega (arith, most))))

may_take : (cost left : ℕ) (place : Place) (number : ℕ) → (first_choice cost left place).taken ≤ number
    → number < (first_choice cost left place).taken + suc (place.possible - (first_choice cost left place).taken)
    → MayTake cost left place.possible number
may_take cost left place number least most = grind (arith, nat_tests, least, most)

only_at : (test : Test) (cost room left : ℕ) (run : List ℕ) (found : Option Place) → test.at run ≡ found
    → ((left' : ℕ) (run' : List ℕ)
    → All (λ schedule. (later : List ℕ) × (IsWithin test cost room left' run' later × (schedule ≡ played run' later)))
    (schedules test cost room left' run'))
    → All (λ schedule. (later : List ℕ) × (IsWithin test cost (suc room) left run later × (schedule ≡ played run later)))
    (schedules_at (schedules test cost room) cost left run found)
only_at test cost room left run None is shorter =
    All-cons (λ schedule. (later : List ℕ) × (IsWithin test cost (suc room) left run later × (schedule ≡ played run later)))
    run [] ([], (is, refl))
    (All-nil (λ schedule. (later : List ℕ) × (IsWithin test cost (suc room) left run later × (schedule ≡ played run later))))
only_at test cost room left run (Some place) is shorter =
    below_only (λ schedule. (later : List ℕ) × (IsWithin test cost (suc room) left run later × (schedule ≡ played run later)))
    (schedules test cost room) cost left place.possible run (first_choice cost left place).taken
    (suc (place.possible - (first_choice cost left place).taken))
    (λ number least most.
    All-weaker
    (λ schedule. (later : List ℕ) × (IsWithin test cost room (left_after cost left place.possible number) (number ∷ run) later
    × (schedule ≡ played (number ∷ run) later)))
    (λ schedule. (later : List ℕ) × (IsWithin test cost (suc room) left run later × (schedule ≡ played run later)))
    (λ schedule of. (number ∷ of.0, ((place, (is, may_take cost left place number least most, of.1.0)), of.1.1)))
    (schedules test cost room (left_after cost left place.possible number) (number ∷ run))
    (shorter (left_after cost left place.possible number) (number ∷ run)))

only : (test : Test) (cost room left : ℕ) (run : List ℕ)
    → All (λ schedule. (later : List ℕ) × (IsWithin test cost room left run later × (schedule ≡ played run later)))
    (schedules test cost room left run)
only test cost zero left run =
    All-cons (λ schedule. (later : List ℕ) × (IsWithin test cost zero left run later × (schedule ≡ played run later)))
    run [] ([], (refl, refl))
    (All-nil (λ schedule. (later : List ℕ) × (IsWithin test cost zero left run later × (schedule ≡ played run later))))
only test cost (suc room) left run = only_at test cost room left run (test.at run) refl (only test cost room)

-- No schedule is in the list twice.

played-reverse : (run later : List ℕ) → played run later ≡ reverse later ++ run
played-reverse run [] = refl
played-reverse run (number ∷ later) =
    played-reverse (number ∷ run) later ∙ sym (append_assoc (reverse later) (number ∷ []) run)
    ∙ ap (λ xs. xs ++ run) (sym (reverse-append (number ∷ []) later))

same_numbers : (run one two : List ℕ) → played run one ≡ played run two → one ≡ two
same_numbers run one two is =
    sym (reverse-reverse one)
    ∙ ap reverse (append_cancel_right (reverse one) (reverse two) run (sym (played-reverse run one) ∙ is ∙ played-reverse run two))
    ∙ reverse-reverse two

same_first : (first second : ℕ) (one two : List ℕ) → (first ∷ one) ≡ (second ∷ two) → first ≡ second
same_first first second one two is = cc

append_different : (xs ys : List (List ℕ)) → AreDifferent xs → AreDifferent ys → All (λ x. All (λ y. x ≢ y) ys) xs
    → AreDifferent (xs ++ ys)
append_different [] ys first second cross = second
append_different (x ∷ xs) ys first second cross = (
  All-append (λ y. x ≢ y) xs ys first.0 (All-head (λ x'. All (λ y. x' ≢ y) ys) x xs cross),
  append_different xs ys first.1 second (All-tail (λ x'. All (λ y. x' ≢ y) ys) x xs cross),
)

differ : (run : List ℕ) (first number : ℕ) (one two x y : List ℕ) → first < number → x ≡ played (first ∷ run) one
    → y ≡ played (number ∷ run) two → x ≢ y
differ run first number one two x y less is is' same =
    let first_is : first ≡ number =
    same_first first number one two (same_numbers run (first ∷ one) (number ∷ two) (sym is ∙ same ∙ is')) in
    omega (arith, less, first_is)

below_once : (test : Test) (cost room left possible : ℕ) (run : List ℕ) (first count : ℕ)
    → ((left' : ℕ) (run' : List ℕ) → AreDifferent (schedules test cost room left' run'))
    → AreDifferent (below (schedules test cost room) cost left possible run first count)
below_once test cost room left possible run first zero shorter = tt
below_once test cost room left possible run first (suc count) shorter =
    append_different (schedules test cost room (left_after cost left possible first) (first ∷ run))
    (below (schedules test cost room) cost left possible run (first + 1) count)
    (shorter (left_after cost left possible first) (first ∷ run))
    (below_once test cost room left possible run (first + 1) count shorter)
    (All-weaker
    (λ x. (later : List ℕ) × (IsWithin test cost room (left_after cost left possible first) (first ∷ run) later
    × (x ≡ played (first ∷ run) later)))
    (λ x. All (λ y. x ≢ y) (below (schedules test cost room) cost left possible run (first + 1) count))
    (λ x of.
    below_only (λ y. x ≢ y) (schedules test cost room) cost left possible run (first + 1) count
    (λ number least most.
    All-weaker
    (λ y. (later : List ℕ) × (IsWithin test cost room (left_after cost left possible number) (number ∷ run) later
    × (y ≡ played (number ∷ run) later)))
    (λ y. x ≢ y)
    (λ y of'. differ run first number of.0 of'.0 x y (omega (arith, least)) of.1.1 of'.1.1)
    (schedules test cost room (left_after cost left possible number) (number ∷ run))
    (only test cost room (left_after cost left possible number) (number ∷ run))))
    (schedules test cost room (left_after cost left possible first) (first ∷ run))
    (only test cost room (left_after cost left possible first) (first ∷ run)))

once_at : (test : Test) (cost room left : ℕ) (run : List ℕ) (found : Option Place)
    → ((left' : ℕ) (run' : List ℕ) → AreDifferent (schedules test cost room left' run'))
    → AreDifferent (schedules_at (schedules test cost room) cost left run found)
once_at test cost room left run None shorter = (All-nil (λ other. run ≢ other), tt)
once_at test cost room left run (Some place) shorter =
    below_once test cost room left place.possible run (first_choice cost left place).taken
    (suc (place.possible - (first_choice cost left place).taken)) shorter

once : (test : Test) (cost room left : ℕ) (run : List ℕ) → AreDifferent (schedules test cost room left run)
once test cost zero left run = (All-nil (λ other. run ≢ other), tt)
once test cost (suc room) left run = once_at test cost room left run (test.at run) (once test cost room)

pub lists_all : ListsAll
lists_all = record { each = each; only = only; once = once }
