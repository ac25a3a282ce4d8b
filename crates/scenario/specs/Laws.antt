-- Laws of reading texts (our choice).
use Rattle.std.specs.Prelude.{◌≡◌, ℕ}
use Rattle.scenario.specs.Answers.{IsScenarioRead, IsRefusedAt}
use Rattle.scenario.specs.SoFar.{SoFar}
use Rattle.scenario.specs.Words.{Text}
use Rattle.scenario.specs.declared.refusal.Fault.{Fault}

-- A text that can be read isn't refused for a line.
abbrev pub TextsAreReadOrRefused : Type 0
TextsAreReadOrRefused = (text : Text) (read : SoFar) (line : ℕ) (one : Fault) → IsScenarioRead text read → ¬ IsRefusedAt text line one

-- A text is refused for at most one line, with at most one fault.
abbrev pub RefusalsAreOne : Type 0
RefusalsAreOne =
    (text : Text) (line other : ℕ) (one two : Fault) → IsRefusedAt text line one → IsRefusedAt text other two
    → (line ≡ other) × (one ≡ two)
