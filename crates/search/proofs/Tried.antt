-- What a search has tried, from one choice to the next.
use Rattle.std.proofs.Common.{◌≡◌, ◌∙◌, ◌+◌, ◌<◌, ◌≤◌, ◌∷◌, [], ◌⊎◌, ℕ, true, List, Option, Some, arith, inl, inr, subst, sym}
use Rattle.std.proofs.lemmas.Bool.Decides.{nat_tests}
use Rattle.std.proofs.lemmas.List.Elements.{All-set}
use Rattle.search.specs.Tests.{AllPass, EqualKeys, IsSchedule, MayTake, Test, left_after, played}
use Rattle.search.specs.Searches.{AreTrueEntries, HasOneMore, IsKnownBy, IsTried, IsTrueEntry, first_choice, known_of, next_choice}
use Rattle.search.specs.declared.path.Choice.{Choice}
use Rattle.search.specs.declared.path.Key.{Key}
use Rattle.search.specs.declared.path.Known.{Known}
use Rattle.search.specs.declared.path.Place.{Place}
use Rattle.search.proofs.Passing.{less_passes, not_both, same_passes}

some_injective : (one two : Place) (found : Option Place) → found ≡ Some one → found ≡ Some two → one ≡ two
some_injective one two found first second = cc

first_may : (cost left : ℕ) (place : Place) → MayTake cost left place.possible (first_choice cost left place).taken
first_may cost left place = grind (arith, nat_tests)

none_before : (cost left : ℕ) (place : Place) (number : ℕ) → number < (first_choice cost left place).taken
    → MayTake cost left place.possible number → ⊥
none_before cost left place number less (inl is) = grind (arith, nat_tests, less, is)
none_before cost left place number less (inr may) = grind (arith, nat_tests, less, may)

pub first_is_tried : (test : Test) (cost left : ℕ) (place : Place) (run : List ℕ) → test.at run ≡ Some place
    → IsTried test cost (first_choice cost left place) run
first_is_tried test cost left place run is = record {
  place = is;
  may = first_may cost left place;
  before = λ number less may. absurd (none_before cost left place number less may);
}

next_may : (cost left possible taken : ℕ) → taken < possible → MayTake cost left possible taken
    → MayTake cost left possible (taken + 1)
next_may cost left possible taken less (inl is) = absurd (omega arith)
next_may cost left possible taken less (inr may) = grind (arith, less, may)

up_to : (number taken : ℕ) → number < taken + 1 → (number < taken) ⊎ (taken ≡ number)
up_to number taken less = grind (arith, less)

next_before : (test : Test) (cost : ℕ) (choice : Choice) (run : List ℕ) (number : ℕ) → IsTried test cost choice run
    → AllPass test cost (left_after cost choice.left choice.place.possible choice.taken) (choice.taken ∷ run)
    → MayTake cost choice.left choice.place.possible number → (number < choice.taken) ⊎ (choice.taken ≡ number)
    → AllPass test cost (left_after cost choice.left choice.place.possible number) (number ∷ run)
next_before test cost choice run number tried all may (inl less) = tried.before number less may
next_before test cost choice run number tried all may (inr is) =
    subst (λ here. AllPass test cost (left_after cost choice.left choice.place.possible here) (here ∷ run)) is all

pub next_is_tried : (test : Test) (cost : ℕ) (choice : Choice) (run : List ℕ) → IsTried test cost choice run
    → choice.taken < choice.place.possible
    → AllPass test cost (left_after cost choice.left choice.place.possible choice.taken) (choice.taken ∷ run)
    → IsTried test cost (next_choice choice) run
next_is_tried test cost choice run tried less all = record {
  place = tried.place;
  may = next_may cost choice.left choice.place.possible choice.taken less tried.may;
  before = λ number below may. next_before test cost choice run number tried all may (up_to number choice.taken below);
}

last_or_before : (cost left possible taken number : ℕ) → possible ≤ taken → MayTake cost left possible taken
    → MayTake cost left possible number → (number < taken) ⊎ (taken ≡ number)
last_or_before cost left possible taken number last (inl is) (inl here) = inr (is ∙ sym here)
last_or_before cost left possible taken number last (inl is) (inr here) = inl (omega (arith, is, here.0))
last_or_before cost left possible taken number last (inr may) here = absurd (omega (arith, last, may.0))

all_at : (test : Test) (cost : ℕ) (choice : Choice) (run : List ℕ) (number : ℕ) (place : Place) (later : List ℕ)
    → IsTried test cost choice run → choice.place.possible ≤ choice.taken
    → AllPass test cost (left_after cost choice.left choice.place.possible choice.taken) (choice.taken ∷ run)
    → choice.place ≡ place → MayTake cost choice.left place.possible number
    → IsSchedule test cost (left_after cost choice.left place.possible number) (number ∷ run) later
    → test.passes (played (number ∷ run) later) ≡ true
all_at test cost choice run number place later tried last all is may schedule =
    let may' : MayTake cost choice.left choice.place.possible number =
    subst (λ here. MayTake cost choice.left here.possible number) (sym is) may in
    next_before test cost choice run number tried all may'
    (last_or_before cost choice.left choice.place.possible choice.taken number last tried.may may') later
    (subst (λ here. IsSchedule test cost (left_after cost choice.left here.possible number) (number ∷ run) later)
    (sym is) schedule)

pub all_tried : (test : Test) (cost : ℕ) (choice : Choice) (run : List ℕ) → IsTried test cost choice run
    → choice.place.possible ≤ choice.taken
    → AllPass test cost (left_after cost choice.left choice.place.possible choice.taken) (choice.taken ∷ run)
    → AllPass test cost choice.left run
all_tried test cost choice run tried last all [] schedule = absurd (not_both test run choice.place schedule tried.place)
all_tried test cost choice run tried last all (number ∷ later) schedule =
    all_at test cost choice run number schedule.0 later tried last all
    (some_injective choice.place schedule.0 (test.at run) tried.place schedule.1.0) schedule.1.1 schedule.1.2

pub known_passes : (test : Test) (cost left : ℕ) (entry : Known) (place : Place) (run : List ℕ)
    → IsTrueEntry test cost entry → IsKnownBy entry place.key left → test.at run ≡ Some place → AllPass test cost left run
known_passes test cost left entry place run true_known known is =
    less_passes test cost left entry.left run known.2
    (true_known (subst (λ key. 0 < key.one) (sym known.1) known.0) run place is (sym known.1))

positive_key : (one two : Key) → one ≡ two → 0 < two.one → 0 < one.one
positive_key one two is positive = subst (λ key. 0 < key.one) (sym is) positive

pub noted_is_true : (test : Test) (cost left : ℕ) (place : Place) (run : List ℕ) → EqualKeys test → test.at run ≡ Some place
    → AllPass test cost left run → IsTrueEntry test cost (known_of place.key left)
noted_is_true test cost left place run equal is all =
    λ positive other there at key.
    same_passes test cost left other run
    (equal other run there place at is (positive_key there.key place.key key positive) key) all

pub all_known : (test : Test) (cost : ℕ) (old : List Known) (entry : Known) (new : List Known) → AreTrueEntries test cost old
    → IsTrueEntry test cost entry → HasOneMore old entry new → AreTrueEntries test cost new
all_known test cost old entry new known is (inl same) = subst (AreTrueEntries test cost) (sym same) known
all_known test cost old entry new known is (inr more) =
    subst (AreTrueEntries test cost) (sym more.1) (All-set (IsTrueEntry test cost) old more.0 entry is known)
