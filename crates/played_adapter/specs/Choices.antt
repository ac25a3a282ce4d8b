-- The steps and arrivals that may be played before accesses and requests (our choice; `finder/README.md`, "A schedule").
use Rattle.std.specs.Prelude.{◌==◌, ◌%◌, ℕ, List, if◌then◌else◌, length}
use Rattle.rand_pcg.specs.Lcg.{Lcg}
use Rattle.rand_pcg.specs.Pcg.{pcg32}
use Rattle.adapter.specs.model_types.step.StepKind.{StepKind}
use Rattle.adapter.specs.model_types.step.StepKind.TheVariants as kinds
use Rattle.step_schedules.specs.declared.deviation.Action.{Action}
use Rattle.step_schedules.specs.declared.deviation.Action.TheVariants.{EepromTick, PhyTick, RxData, RxDone, TxPut, TxTake}
use Rattle.played_adapter.specs.Draws.{drawn_kind}
use Rattle.played_adapter.specs.Kinds.{kind_numbered}
use Rattle.played_adapter.specs.declared.choices.Choice.{Choice}
use Rattle.played_adapter.specs.declared.choices.Choice.TheVariants.{Step, Arrival}

-- the choice with this number: an arrival for 6, else a step of the kind with this number
abbrev pub choice_numbered : ℕ → Choice
choice_numbered number = if number == 6 then Arrival else Step (kind_numbered number)

-- The choice that the generator's next word determines, and the generator after this word. If no frame is offered, the choice is a step,
-- else a step or an arrival.
abbrev pub drawn : (offered : List (List ℕ)) → Lcg → Choice × Lcg
drawn offered generator =
    if length offered == 0 then (let kind = drawn_kind generator in (Step kind.0, kind.1))
    else (let word = pcg32 generator in (choice_numbered (word.0 % 7), word.1))

-- the action that plays a step of this kind
abbrev pub step_action : StepKind → Action
step_action kinds.TxTake = TxTake
step_action kinds.TxPut = TxPut
step_action kinds.RxData = RxData
step_action kinds.RxDone = RxDone
step_action kinds.EepromTick = EepromTick
step_action kinds.PhyTick = PhyTick
