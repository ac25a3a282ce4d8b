-- Conditions under which all schedules pass.
use Rattle.std.proofs.Common.{◌≡◌, ◌∙◌, ◌≤◌, ◌∷◌, [], ℕ, List, None, Some, arith, inl, inr, sym}
use Rattle.std.proofs.lemmas.Bool.Decides.{nat_tests}
use Rattle.search.specs.Tests.{AllPass, IsSame, IsSchedule, MayTake, Test, left_after}
use Rattle.search.specs.Searches.{RunsPass}
use Rattle.search.specs.declared.path.Place.{Place}

pub not_both : (test : Test) (run : List ℕ) (place : Place) → test.at run ≡ None → test.at run ≡ Some place → ⊥
not_both test run place ended is = cc

pub runs_pass : RunsPass
runs_pass test cost left run ended passing [] schedule = passing
runs_pass test cost left run ended passing (number ∷ later) schedule =
    absurd (not_both test run schedule.0 ended schedule.1.0)

may_take_more : (cost less more possible number : ℕ) → less ≤ more → MayTake cost less possible number
    → MayTake cost more possible number
may_take_more cost less more possible number most (inl is) = inl is
may_take_more cost less more possible number most (inr may) = inr (may.0, omega (arith, may.1, most))

more_after : (cost less more possible number : ℕ) → less ≤ more
    → left_after cost less possible number ≤ left_after cost more possible number
more_after cost less more possible number most = grind (arith, nat_tests, most)

more_schedules : (test : Test) (cost less more : ℕ) (run later : List ℕ) → less ≤ more
    → IsSchedule test cost less run later → IsSchedule test cost more run later
more_schedules test cost less more run [] most schedule = schedule
more_schedules test cost less more run (number ∷ later) most schedule =
    let possible : ℕ = schedule.0.possible in (
      schedule.0,
      (
        schedule.1.0,
        may_take_more cost less more possible number most schedule.1.1,
        more_schedules test cost (left_after cost less possible number) (left_after cost more possible number)
            (number ∷ run) later (more_after cost less more possible number most) schedule.1.2,
      ),
    )

pub less_passes : (test : Test) (cost less more : ℕ) (run : List ℕ) → less ≤ more
    → AllPass test cost more run → AllPass test cost less run
less_passes test cost less more run most all =
    λ later schedule. all later (more_schedules test cost less more run later most schedule)

same_schedules : (test : Test) (cost left : ℕ) (run other later : List ℕ) → IsSame test run other
    → IsSchedule test cost left run later → IsSchedule test cost left other later
same_schedules test cost left run other [] same schedule = sym (same []).0 ∙ schedule
same_schedules test cost left run other (number ∷ later) same schedule = (
  schedule.0,
  (
    sym (same []).0 ∙ schedule.1.0,
    schedule.1.1,
    same_schedules test cost (left_after cost left schedule.0.possible number) (number ∷ run) (number ∷ other) later
        (λ more. same (number ∷ more)) schedule.1.2,
  ),
)

pub same_passes : (test : Test) (cost left : ℕ) (run other : List ℕ) → IsSame test run other
    → AllPass test cost left other → AllPass test cost left run
same_passes test cost left run other same all =
    λ later schedule. (same later).1 ∙ all later (same_schedules test cost left run other later same schedule)
