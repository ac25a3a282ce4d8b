-- The order in which a search tries schedules, if no state is known.
use Rattle.std.specs.Prelude.{◌≡◌, ◌≢◌, ◌≤◌, ◌+◌, ◌-◌, ◌++◌, ◌∷◌, [], ℕ, List, Option, None, Some, length, nat_lt, suc, zero, if◌then◌else◌}
use Rattle.std.specs.Prelude.{All, Contains}
use Rattle.std.specs.Option.{option_map}
use Rattle.search.specs.declared.path.Choice.{Choice}
use Rattle.search.specs.declared.path.Place.{Place}
use Rattle.search.specs.Searches.{first_choice, left_of, next_choice, run_of}
use Rattle.search.specs.Tests.{IsSchedule, MayTake, Test, left_after, played}

-- the schedules that take one of `count` numbers at a place, from `number` on
abbrev pub below : (ℕ → List ℕ → List (List ℕ)) → ℕ → ℕ → ℕ → List ℕ → ℕ → ℕ → List (List ℕ)
below all cost left possible run number zero = []
below all cost left possible run number (suc count) =
    all (left_after cost left possible number) (number ∷ run) ++ below all cost left possible run (number + 1) count

-- The schedules that begin with a run, by the place after the run. Without a place, the run has ended, and is the only schedule. `all`
-- returns the schedules that begin with a longer run.
abbrev pub schedules_at : (ℕ → List ℕ → List (List ℕ)) → ℕ → ℕ → List ℕ → Option Place → List (List ℕ)
schedules_at all cost left run None = run ∷ []
schedules_at all cost left run (Some place) =
    let first : ℕ = (first_choice cost left place).taken in
    below all cost left place.possible run first (suc (place.possible - first))

-- The schedules that begin with a run, and whose later deviations cost at most `left`. A schedule with more than `room` later places is cut
-- after `room` of them.
abbrev pub schedules : Test → ℕ → ℕ → ℕ → List ℕ → List (List ℕ)
schedules test cost zero left run = run ∷ []
schedules test cost (suc room) left run = schedules_at (schedules test cost room) cost left run (test.at run)

-- the schedules after all schedules that begin with a path
abbrev pub rest : Test → ℕ → List Choice → ℕ → List (List ℕ)
rest test cost [] room = []
rest test cost (choice ∷ path) room =
    below (schedules test cost room) cost choice.left choice.place.possible (run_of path) (choice.taken + 1)
    (choice.place.possible - choice.taken) ++ rest test cost path (suc room)

-- a path, and the number of places that may follow it
pub record Reached : Type 0 where
  pub path : List Choice
  pub room : ℕ

-- a path if its run has ended; otherwise `run` of the path with the first choice at the next place
abbrev pub ended_at : (List Choice → Reached) → ℕ → ℕ → ℕ → List Choice → Option Place → Reached
ended_at run cost depth room path None = record { path = path; room = room }
ended_at run cost depth room path (Some place) = run (first_choice cost (left_of cost depth path) place ∷ path)

-- the whole path of a run that begins with a path, and makes the first choice at each later place, up to `room` later places
abbrev pub ended_search : Test → ℕ → ℕ → ℕ → List Choice → Reached
ended_search test cost depth zero path = record { path = path; room = 0 }
ended_search test cost depth (suc room) path =
    ended_at (ended_search test cost depth room) cost depth (suc room) path (test.at (run_of path))

-- The path to try after a path: the next choice at the newest place with a next choice, without later places. Without such a place, there
-- is no path.
abbrev pub next_path : List Choice → Option (List Choice)
next_path [] = None
next_path (choice ∷ path) =
    if nat_lt choice.taken choice.place.possible then Some (next_choice choice ∷ path) else next_path path

-- the next path to try, if there is one, and the number of places that may follow it
abbrev pub path_after : List Choice → ℕ → Option Reached
path_after [] room = None
path_after (choice ∷ path) room =
    if nat_lt choice.taken choice.place.possible then Some (record { path = next_choice choice ∷ path; room = room })
    else path_after path (suc room)

-- the path without the number of later places
abbrev pub path_in : Reached → List Choice
path_in reached = reached.path

-- the run of a whole path, and the schedules after it
abbrev pub from_run : Test → ℕ → Reached → List (List ℕ)
from_run test cost reached = run_of reached.path ∷ rest test cost reached.path reached.room

-- the schedules from the run of the next path on, if there is a next path
abbrev pub from_next : Test → ℕ → ℕ → Option Reached → List (List ℕ)
from_next test cost depth None = []
from_next test cost depth (Some reached) = from_run test cost (ended_search test cost depth reached.room reached.path)

-- The first run, and then the run of each next path until there is none, are the list `schedules`, in order.
pub record AllAreTried : Type 0 where
  -- the list begins with the first run
  pub begins : (test : Test) (cost depth room : ℕ)
      → schedules test cost room depth [] ≡ from_run test cost (ended_search test cost depth room [])
  -- the schedules after a path begin with the run of the next path
  pub goes_on : (test : Test) (cost depth : ℕ) (path : List Choice) (room : ℕ)
      → rest test cost path room ≡ from_next test cost depth (path_after path room)
  -- `next_path`, which `back` computes, is the next path in this list
  pub by_back : (path : List Choice) (room : ℕ) → next_path path ≡ option_map path_in (path_after path room)

-- The list of schedules.

-- After a run, a test may take these numbers, with deviations that cost at most `left`. They are the numbers up to the end of the test if
-- there are at most `room`, or else the first `room` numbers.
abbrev pub IsWithin : Test → ℕ → ℕ → ℕ → List ℕ → List ℕ → Type 0
IsWithin test cost zero left run later = later ≡ []
IsWithin test cost (suc room) left run [] = test.at run ≡ None
IsWithin test cost (suc room) left run (number ∷ later) =
    (place : Place) × ((test.at run ≡ Some place) × MayTake cost left place.possible number
    × IsWithin test cost room (left_after cost left place.possible number) (number ∷ run) later)

-- no run is twice in a list
abbrev pub AreDifferent : List (List ℕ) → Type 0
AreDifferent [] = Unit {0}
AreDifferent (run ∷ runs) = All (λ other. run ≢ other) runs × AreDifferent runs

-- The list of schedules contains each schedule with at most `room` later places, otherwise only the first `room` places of longer runs, and
-- no run twice.
pub record ListsAll : Type 0 where
  -- each schedule with at most `room` later places
  pub each : (test : Test) (cost room left : ℕ) (run later : List ℕ) → IsSchedule test cost left run later
      → length later ≤ room → Contains (schedules test cost room left run) (played run later)
  -- only schedules, and the first `room` places of longer runs
  pub only : (test : Test) (cost room left : ℕ) (run : List ℕ)
      → All (λ schedule. (later : List ℕ) × (IsWithin test cost room left run later × (schedule ≡ played run later)))
      (schedules test cost room left run)
  -- no run twice
  pub once : (test : Test) (cost room left : ℕ) (run : List ℕ) → AreDifferent (schedules test cost room left run)
