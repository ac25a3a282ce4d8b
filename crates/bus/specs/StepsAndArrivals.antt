-- Each adapter step and each delivery of a frame may happen between two accesses.
use Rattle.std.specs.Prelude.{ℕ, Bool, List}
use Rattle.rx_engine.specs.Arriving.{kept}
use Rattle.rx_engine.specs.declared.arrival.Fate.{Fate}
use Rattle.rx_engine.specs.declared.arrival.Fate.TheVariants.{Off, Illegal, Filtered, Missed, Stored}
use Rattle.adapter_model.specs.Outcomes.{put_by}
use Rattle.adapter_model.specs.Receiving.{IsFate, after_arrive}
use Rattle.adapter_model.specs.State.{IsAdapter}
use Rattle.adapter_model.specs.Steps.{Answers, after_step, memory_after_step}
use Rattle.adapter_model.specs.declared.step.StepKind.{StepKind}
use Rattle.adapter_model.specs.declared.step.StepKind.TheVariants.{TxTake, TxPut, RxData, RxDone, EepromTick, PhyTick}
use Rattle.adapter_model.specs.Outcomes.{FrameOutcome}
use Rattle.bus.specs.Law.{Happens}
use Rattle.bus.specs.Pasts.{Past, nothing}
use Rattle.adapter_model.specs.World.{World}

-- What happens in a step of this kind with this outcome.
abbrev pub past_of_step : StepKind → FrameOutcome → Past
past_of_step TxTake answer = nothing
past_of_step TxPut answer = record nothing { put = put_by answer }
past_of_step RxData answer = nothing
past_of_step RxDone answer = nothing
past_of_step EepromTick answer = record nothing { eeprom_ticks = 1 }
past_of_step PhyTick answer = record nothing { phy_ticks = 1 }

-- The world after a step of this kind with this outcome.
abbrev pub world_after_step : StepKind → FrameOutcome → World → World
world_after_step kind answer world = record {
  memory = memory_after_step kind answer world.memory world.adapter;
  adapter = after_step kind answer world.memory world.adapter;
}

-- The number of missed frames of an arrival with this fate: 0 or 1.
abbrev pub missed_by : Fate → ℕ
missed_by Off = 0
missed_by Illegal = 0
missed_by Filtered = 0
missed_by Missed = 1
missed_by Stored = 0

-- What happens when a frame with this fate arrives.
abbrev pub past_of_arrival : Fate → List ℕ → Past
past_of_arrival fate frame = record nothing { stored = kept fate frame; missed = missed_by fate }

-- The world after the arrival of a frame with this fate.
abbrev pub world_after_arrival : Fate → List ℕ → World → World
world_after_arrival fate frame world = record world { adapter = after_arrive fate frame world.adapter }

-- Each step of the adapter, with an outcome that the adapter's contract allows, may happen between two accesses.
abbrev pub StepsHappen : Type 0
StepsHappen =
    (world : World) (kind : StepKind) (wire_free : Bool) (answer : FrameOutcome)
    → IsAdapter world.adapter → Answers kind wire_free world.memory world.adapter answer
    → Happens world (world_after_step kind answer world) (past_of_step kind answer)

-- Each delivery of a frame, with a fate that the adapter's contract allows, may happen between two accesses.
abbrev pub ArrivalsHappen : Type 0
ArrivalsHappen =
    (world : World) (fate : Fate) (frame : List ℕ)
    → IsAdapter world.adapter → IsFate world.adapter frame fate
    → Happens world (world_after_arrival fate frame world) (past_of_arrival fate frame)
