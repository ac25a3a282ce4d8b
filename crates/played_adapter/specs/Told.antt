-- What an observer is told (our choice).
use Rattle.std.specs.Prelude.{ℕ, Bool, List, Option}
use Rattle.adapter.specs.Outcomes.{FrameOutcome}
use Rattle.adapter.specs.model_types.step.StepKind.{StepKind}
use Rattle.adapter.specs.bus_types.event.Access.{Access}
use Rattle.access_names.specs.declared.engine_fault.EngineFault.{EngineFault}
use Rattle.rx_engine.specs.declared.arrival.Fate.{Fate}
use Rattle.step_schedules.specs.declared.deviation.Action.{Action}

-- one thing that an observer is told
pub data Told : Type 0 where
  -- a step, its outcome with the frame that it put, and its fault, if the outcome is a fault
  Stepped : StepKind → FrameOutcome → Option EngineFault → Told
  -- a frame that arrived without being offered, and its fate
  Arrived : (frame : List ℕ) → Fate → Told
  -- an offered frame that arrived, and its fate
  OfferedArrived : (frame : List ℕ) → Fate → Told
  -- an access; of a load, the address and the number of bytes
  Accessed : Access → Told
  -- the new level of the interrupt line
  Line : (level : Bool) → Told
  -- a choice that did something, a default step that was left out, or a number above 0 that was chosen
  Noted : Action → Told
