-- Which steps did something (our choice).
use Rattle.std.specs.Prelude.{ℕ, Bool, true, false}
use Rattle.adapter.specs.model_types.outcome.Outcome.{Outcome}
use Rattle.adapter.specs.model_types.outcome.Outcome.TheVariants.{Nothing, WireFull}

-- whether a step with this outcome did something
abbrev pub did : Outcome (Unit {0}) → Bool
did Nothing = false
did WireFull = false
did _ = true

-- 1 if a step with this outcome did something, else 0
abbrev pub moved_by : Outcome (Unit {0}) → ℕ
moved_by Nothing = 0
moved_by WireFull = 0
moved_by _ = 1
