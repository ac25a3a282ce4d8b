-- The moves of a schedule before accesses and requests (our choice; `finder/README.md`, "A schedule").
use Rattle.std.specs.Prelude.{◌++◌, ◌∷◌, [], Bool, List, None, Option, Some, flat_map, if◌then◌else◌}
use Rattle.adapter.specs.model_types.step.StepKind.{StepKind}
use Rattle.adapter.specs.model_types.step.StepKind.TheVariants as kinds
use Rattle.eeprom.specs.Eerd.{is_pending}
use Rattle.mdic_phy.specs.Mdic.{has_work}
use Rattle.step_schedules.specs.Agendas.{AgendaState, agenda_after, coming, default_steps_held}
use Rattle.step_schedules.specs.Waiting.{due_before}
use Rattle.step_schedules.specs.Words.{Text}
use Rattle.step_schedules.specs.declared.agenda.Held.{Held}
use Rattle.step_schedules.specs.declared.deviation.Action.{Action}
use Rattle.step_schedules.specs.declared.deviation.Action.TheVariants.{TxTake, TxPut, RxData, RxDone, Tx, Rx, Arrive}
use Rattle.step_schedules.specs.declared.deviation.Action.TheVariants.{Choose, EepromTick, HoldEeprom, HoldPhy, PhyTick}
use Rattle.step_schedules.specs.declared.deviation.Before.{Before}
use Rattle.played_adapter.specs.declared.choices.Choice.TheVariants.{Step, Arrival}
use Rattle.played_adapter.specs.declared.choices.Move.{Move}
use Rattle.played_adapter.specs.declared.choices.Move.TheVariants.{Hold, Play, Tick}
use Rattle.played_adapter.specs.declared.player.PlayedAdapter.{PlayedAdapter}
use Rattle.played_adapter.specs.Order.{InOrder, Joins}
use Rattle.played_adapter.specs.Playing.{Makes}
use Rattle.played_adapter.specs.Told.{Told}

-- the move that plays a step of this kind
abbrev pub play_step : StepKind → Move
play_step kind = Play (Step kind)

-- the moves of an action; a hold and a chosen number have no moves
abbrev pub moves_of : Action → List Move
moves_of TxTake = play_step kinds.TxTake ∷ []
moves_of TxPut = play_step kinds.TxPut ∷ []
moves_of RxData = play_step kinds.RxData ∷ []
moves_of RxDone = play_step kinds.RxDone ∷ []
moves_of EepromTick = play_step kinds.EepromTick ∷ []
moves_of PhyTick = play_step kinds.PhyTick ∷ []
moves_of Tx = play_step kinds.TxTake ∷ play_step kinds.TxPut ∷ []
moves_of Rx = play_step kinds.RxData ∷ play_step kinds.RxDone ∷ []
moves_of Arrive = Play Arrival ∷ []
moves_of HoldEeprom = []
moves_of HoldPhy = []
moves_of (Choose number) = []

-- the moves of the action, or no moves if there is no action
abbrev pub moves_of_next : Option Action → List Move
moves_of_next None = []
moves_of_next (Some action) = moves_of action

-- a list of the move, or an empty list if there is no move
abbrev pub listed : Option Move → List Move
listed None = []
listed (Some next) = next ∷ []

-- the move of a default step that has work: its hold if the step is held, else the step
abbrev pub default_move : (is_held : Bool) → StepKind → Action → Move
default_move is_held kind hold = if is_held then Hold hold else Tick kind

-- the moves of the default steps before an access; `held` is which of them are held
abbrev pub tick_moves : Held → PlayedAdapter → List Move
tick_moves held a =
    let adapter = a.machine.world.adapter in
    (if is_pending adapter.eerd then default_move held.eeprom kinds.EepromTick HoldEeprom ∷ [] else [])
    ++ (if has_work adapter.mdic adapter.phy then default_move held.phy kinds.PhyTick HoldPhy ∷ [] else [])

-- the actions of an agenda that are due before an access of a target with this name, or a request with this first word
abbrev pub due_in_agenda : Before → (name : Text) → AgendaState → List Action
due_in_agenda before name agenda = due_before (coming before name agenda) agenda.deviations

-- the moves of an agenda before an access: of the default steps, and then of the actions that are due
abbrev pub access_moves : Before → (name : Text) → AgendaState → PlayedAdapter → List Move
access_moves before name agenda a =
    let due = due_in_agenda before name agenda in tick_moves (default_steps_held due agenda) a ++ flat_map moves_of due

-- the moves of an agenda before a request: of the actions that are due
abbrev pub request_moves : Before → (name : Text) → AgendaState → List Move
request_moves before name agenda = flat_map moves_of (due_in_agenda before name agenda)

-- the agenda after it met an access of a target with this name, or a request with this first word
abbrev pub met : Before → (name : Text) → AgendaState → AgendaState
met before name agenda = agenda_after (coming before name agenda) agenda

-- Moves are played, and then something happens.
abbrev pub AfterMoves : List Move → (Happens : PlayedAdapter → PlayedAdapter → List Told → Type 0)
    → PlayedAdapter → PlayedAdapter → List Told → Type 0
AfterMoves moves Happens a b told = Joins (InOrder Makes moves a) (λ middle rest. Happens middle b rest) told
