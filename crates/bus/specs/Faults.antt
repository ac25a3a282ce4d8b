-- No fault stops an engine that can run, if the conditions of the law hold.
use Rattle.std.specs.Prelude.{◌≢◌, ℕ, Bool}
use Rattle.adapter_model.specs.Steps.{Answers}
use Rattle.adapter_model.specs.declared.step.StepKind.{StepKind}
use Rattle.adapter_model.specs.Outcomes.{FrameOutcome}
use Rattle.adapter_model.specs.declared.outcome.Outcome.TheVariants.{Fault}
use Rattle.adapter_model.specs.Conditions.{Sound}
use Rattle.adapter_model.specs.Running.{CanRun}
use Rattle.adapter_model.specs.World.{World}

-- If the conditions of the law hold and the engines can run, no step has the outcome `Fault`.
abbrev pub FaultsNeverCome : Type 0
FaultsNeverCome =
    (oldest_receive oldest_transmit : ℕ) (world : World) (kind : StepKind) (wire_free : Bool) (answer : FrameOutcome)
    → Sound oldest_receive oldest_transmit world → CanRun world → Answers kind wire_free world.memory world.adapter answer → answer ≢ Fault
