-- The state of a search. A path is the list of the choices of a run, the newest one first.
use Rattle.std.specs.Prelude.{◌≡◌, ◌<◌, ◌≤◌, true, ◌+◌, ◌∷◌, [], ℕ, List, None, Some, nat_lt, if◌then◌else◌, ◌⊎◌, length, reverse}
use Rattle.std.specs.Prelude.{slice_set, take, All}
use Rattle.search.specs.declared.path.Choice.{Choice}
use Rattle.search.specs.declared.path.Key.{Key}
use Rattle.search.specs.declared.path.Known.{Known}
use Rattle.search.specs.declared.path.Place.{Place}
use Rattle.search.specs.declared.search.Search.{Search}
use Rattle.search.specs.Tests.{AllPass, MayTake, Test, left_after}

-- the path in the first `count` choices of a slice, in which the oldest choice is first
abbrev pub path_of : ℕ → List Choice → List Choice
path_of count choices = reverse (take count choices)

-- the run of a path
abbrev pub run_of : List Choice → List ℕ
run_of [] = []
run_of (choice ∷ path) = choice.taken ∷ run_of path

-- the maximum total cost of the deviations after a path
abbrev pub left_of : ℕ → ℕ → List Choice → ℕ
left_of cost depth [] = depth
left_of cost depth (choice ∷ path) = left_after cost choice.left choice.place.possible choice.taken

-- the first choice at a place: number 0 if a deviation costs at most `left`, or else no deviation
abbrev pub first_choice : ℕ → ℕ → Place → Choice
first_choice cost left place =
    record { place = place; left = left; taken = if nat_lt left cost then place.possible else 0 }

-- the choice of the next number at the same place
abbrev pub next_choice : Choice → Choice
next_choice choice = record choice { taken = choice.taken + 1 }

-- A choice may be made after a run. For each smaller number that may be taken at its place, all schedules that take the number pass.
pub record IsTried (test : Test) (cost : ℕ) (choice : Choice) (run : List ℕ) : Type 0 where
  pub place : test.at run ≡ Some choice.place
  pub may : MayTake cost choice.left choice.place.possible choice.taken
  pub before : (number : ℕ) → number < choice.taken → MayTake cost choice.left choice.place.possible number
      → AllPass test cost (left_after cost choice.left choice.place.possible number) (number ∷ run)

-- Each choice of a path is tried (`IsTried`), and its `left` is the maximum total cost after the choices before it (`left_of`).
abbrev pub AreTried : Test → ℕ → ℕ → List Choice → Type 0
AreTried test cost depth [] = Unit {0}
AreTried test cost depth (choice ∷ path) =
    IsTried test cost choice (run_of path) × (choice.left ≡ left_of cost depth path) × AreTried test cost depth path

-- If an entry isn't empty, each schedule from a place with the entry's key passes, if its deviations cost at most the entry's `left`.
abbrev pub IsTrueEntry : Test → ℕ → Known → Type 0
IsTrueEntry test cost entry =
    0 < entry.key.one → (run : List ℕ) (place : Place) → test.at run ≡ Some place → place.key ≡ entry.key
    → AllPass test cost entry.left run

-- Each entry of a table is true.
abbrev pub AreTrueEntries : Test → ℕ → List Known → Type 0
AreTrueEntries test cost known = All (IsTrueEntry test cost) known

-- The invariant of a search between two calls, as long as no schedule has failed.
pub record IsSearch (test : Test) (search : Search) (choices : List Choice) (table : List Known) : Type 0 where
  -- the path is in the slice
  pub fits : search.count ≤ length choices
  -- all schedules before those that begin with the path pass
  pub tried : AreTried test search.cost search.depth (path_of search.count choices)
  -- all entries of the table are true
  pub known : AreTrueEntries test search.cost table
  -- no schedule has failed
  pub none_failed : search.failing ≡ 0

-- the run of the path of a search
abbrev pub run_in : Search → List Choice → List ℕ
run_in search choices = run_of (path_of search.count choices)

-- All schedules that begin with the path of a search pass, if their later deviations cost at most `left_of` that path.
abbrev pub ContinuationsPass : Test → Search → List Choice → Type 0
ContinuationsPass test search choices =
    AllPass test search.cost (left_of search.cost search.depth (path_of search.count choices)) (run_in search choices)

-- the entry with this key and this maximum cost
abbrev pub known_of : Key → ℕ → Known
known_of key left = record { key = key; left = left }

-- An entry states that each schedule from the state with this key passes if its deviations cost at most `left`. The key's `one` isn't 0.
abbrev pub IsKnownBy : Known → Key → ℕ → Type 0
IsKnownBy entry key left = (0 < key.one) × (entry.key ≡ key) × (left ≤ entry.left)

-- The new table is the old table, or the old table with this entry in place of another entry.
abbrev pub HasOneMore : List Known → Known → List Known → Type 0
HasOneMore old entry new = (new ≡ old) ⊎ ((at : ℕ) × (new ≡ slice_set old at entry))

-- If a run has ended and passes, all schedules that begin with this run pass.
abbrev pub RunsPass : Type 0
RunsPass =
    (test : Test) (cost left : ℕ) (run : List ℕ) → test.at run ≡ None → test.passes run ≡ true → AllPass test cost left run
