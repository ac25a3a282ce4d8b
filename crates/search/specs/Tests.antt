-- Tests, their schedules, and what it means that all schedules pass.
use Rattle.std.specs.Prelude.{◌≡◌, ◌<◌, ◌≤◌, true, ◌-◌, ◌∷◌, [], ℕ, Bool, List, Option, None, Some, nat_lt, if◌then◌else◌, ◌⊎◌}
use Rattle.search.specs.declared.path.Place.{Place}

-- The behavior of a test. A run is the list of the numbers that were taken at its places, the newest one first.
pub record Test : Type 0 where
  -- the place that a run reaches after these numbers, or `None` if the run has ended
  pub at : List ℕ → Option Place
  -- whether a run that has ended passes
  pub passes : List ℕ → Bool

-- A number may be taken. A number below `possible` is a deviation, and may be taken if `cost` is at most `left`. The number `possible`
-- means no deviation, and may always be taken.
abbrev pub MayTake : ℕ → ℕ → ℕ → ℕ → Type 0
MayTake cost left possible number = (number ≡ possible) ⊎ ((number < possible) × (cost ≤ left))

-- the maximum total cost of the later deviations after this number was taken
abbrev pub left_after : ℕ → ℕ → ℕ → ℕ → ℕ
left_after cost left possible number = if nat_lt number possible then left - cost else left

-- the longer run that begins with `run`, and then takes these numbers in their order
abbrev pub played : List ℕ → List ℕ → List ℕ
played run [] = run
played run (number ∷ later) = played (number ∷ run) later

-- After a run, these numbers are a schedule: they lead to the end of the test, and their deviations cost at most `left` in total.
abbrev pub IsSchedule : Test → ℕ → ℕ → List ℕ → List ℕ → Type 0
IsSchedule test cost left run [] = test.at run ≡ None
IsSchedule test cost left run (number ∷ later) =
    (place : Place) × ((test.at run ≡ Some place) × MayTake cost left place.possible number
    × IsSchedule test cost (left_after cost left place.possible number) (number ∷ run) later)

-- All schedules that begin with a run, and whose later deviations cost at most `left`, pass.
abbrev pub AllPass : Test → ℕ → ℕ → List ℕ → Type 0
AllPass test cost left run = (later : List ℕ) → IsSchedule test cost left run later → test.passes (played run later) ≡ true

-- The test does the same after both runs, whatever numbers follow.
abbrev pub IsSame : Test → List ℕ → List ℕ → Type 0
IsSame test run other =
    (later : List ℕ) → (test.at (played run later) ≡ test.at (played other later))
    × (test.passes (played run later) ≡ test.passes (played other later))

-- After two runs to places with equal keys, whose `one` isn't 0, the test does the same.
abbrev pub EqualKeys : Test → Type 0
EqualKeys test =
    (run other : List ℕ) (one two : Place) → test.at run ≡ Some one → test.at other ≡ Some two → 0 < one.key.one
    → one.key ≡ two.key → IsSame test run other
