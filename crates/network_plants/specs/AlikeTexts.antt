-- The parts of the result that are equal after two reads of one text (our choice).
use Rattle.std.specs.Prelude.{◌≡◌, ◌⊎◌, ℕ, Err, Ok, Result}
use Rattle.scenario.specs.SoFar.{so_far}
use Rattle.scenario.specs.declared.command.Scenario.{Scenario}
use Rattle.scenario.specs.declared.refusal.Fault.{Fault}
use Rattle.scenario.specs.declared.refusal.Refusal.{Refusal}
use Rattle.scenario.specs.declared.refusal.Refusal.TheVariants.{Line, Memory}

-- If both reads accept the text, their hosts, commands and traces are the same.
abbrev pub ReadAlike : (one other : Result Scenario Refusal) → Type 0
ReadAlike one other = (a b : Scenario) → one ≡ Ok a → other ≡ Ok b → so_far a ≡ so_far b

-- If the first read refuses the text for a line, the second read refuses it for the same line and fault, or because
-- memory is refused.
abbrev pub RefusedAlike : (one other : Result Scenario Refusal) → Type 0
RefusedAlike one other =
    (line : ℕ) (fault : Fault) → one ≡ Err (Line line fault) → (other ≡ Err (Line line fault)) ⊎ (other ≡ Err Memory)
