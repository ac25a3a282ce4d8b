-- A text is read with one result, or refused for one line and fault, unless memory is refused.
use Rattle.std.proofs.Common.{◌≡◌, ◌⊎◌, ℕ, Err, IfErr, IfOk, Ok, Result, inl, inr, refl, subst, sym, ◌∙◌}
use Rattle.scenario.specs.Answers.{IsScenarioRead, IsRefused, IsRefusedAt}
use Rattle.scenario.specs.Laws.{RefusalsAreOne, TextsAreReadOrRefused}
use Rattle.scenario.specs.SoFar.{so_far}
use Rattle.scenario.specs.Words.{Text}
use Rattle.scenario.specs.declared.command.Scenario.{Scenario}
use Rattle.scenario.specs.declared.refusal.Fault.{Fault}
use Rattle.scenario.specs.declared.refusal.Refusal.{Refusal}
use Rattle.scenario.specs.declared.refusal.Refusal.TheVariants.{Line, Memory}
use Rattle.network_plants.specs.AlikeTexts.{ReadAlike, RefusedAlike}

pub read-alike : (text : Text) (one other : Result Scenario Refusal) → IfOk one (λ scenario. IsScenarioRead text (so_far scenario))
    → IfOk other (λ scenario. IsScenarioRead text (so_far scenario)) → ReadAlike one other
read-alike text one other is is' a b was was' =
    let x : IsScenarioRead text (so_far a) =
    subst (λ (read : Result Scenario Refusal). IfOk read (λ scenario. IsScenarioRead text (so_far scenario))) was is in
    let y : IsScenarioRead text (so_far b) =
    subst (λ (read : Result Scenario Refusal). IfOk read (λ scenario. IsScenarioRead text (so_far scenario))) was' is' in
    x.said ∙ sym y.said

refused-by : (text : Text) (line : ℕ) (fault : Fault) (other : Result Scenario Refusal) → TextsAreReadOrRefused → RefusalsAreOne
    → IsRefusedAt text line fault → IfErr other (IsRefused text) → IfOk other (λ scenario. IsScenarioRead text (so_far scenario))
    → (other ≡ Err (Line line fault)) ⊎ (other ≡ Err Memory)
refused-by text line fault (Ok scenario) read once at x y = absurd (read text (so_far scenario) line fault y at)
refused-by text line fault (Err Memory) read once at x y = inr refl
refused-by text line fault (Err (Line other one)) read once at x y =
    let same = once text other line one fault x at in
    let lines : other ≡ line = same.0 in
    let faults : one ≡ fault = same.1 in
    inl cc

pub refused-alike : (text : Text) (one other : Result Scenario Refusal) → TextsAreReadOrRefused → RefusalsAreOne
    → IfErr one (IsRefused text) → IfErr other (IsRefused text) → IfOk other (λ scenario. IsScenarioRead text (so_far scenario))
    → RefusedAlike one other
refused-alike text one other read once refused refused' is line fault was =
    let at : IsRefusedAt text line fault = subst (λ (result : Result Scenario Refusal). IfErr result (IsRefused text)) was refused in
    refused-by text line fault other read once at refused' is
