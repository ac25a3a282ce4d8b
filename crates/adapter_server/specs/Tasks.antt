-- What the adapter does for a request (our choice).
use Rattle.std.specs.Prelude.{⊤, ◌≡◌, ℕ, List, [], ◌∷◌, Option, Some, None, Result, Ok, Err, codes, if◌then◌else◌, length, unwrap_or}
use Rattle.std.specs.Int.{to_le_bytes, w32}
use Rattle.std.specs.List.{concat}
use Rattle.std.specs.Option.{option_map_or}
use Rattle.access_names.specs.Names.{target_text}
use Rattle.adapter.specs.State.{AdapterState}
use Rattle.adapter.specs.bus_types.event.Access.TheVariants.{Reads}
use Rattle.played_adapter.specs.Moves.{AfterMoves}
use Rattle.played_adapter.specs.Requests.{ServesAccess, ServesChoice, ServesLoad, ServesSettle}
use Rattle.played_adapter.specs.Told.{Told}
use Rattle.played_adapter.specs.declared.choices.Move.{Move}
use Rattle.played_adapter.specs.declared.player.PlayedAdapter.{PlayedAdapter}
use Rattle.server_output.specs.Answers.{answer_line, line_of}
use Rattle.server_output.specs.Texts.{Text, decimal_line, number_line, ok_line}
use Rattle.server_output.specs.declared.answers.Answer.{Answer}
use Rattle.server_requests.specs.Widths.{wanted_size}
use Rattle.server_requests.specs.declared.request.Wanted.{Wanted}
use Rattle.step_schedules.specs.Agendas.{AgendaState}
use Rattle.step_schedules.specs.Players.{RecorderState}
use Rattle.step_schedules.specs.declared.deviation.Before.{Before}
use Rattle.step_schedules.specs.declared.deviation.Before.TheVariants.{Choice, Read, Request, Write}
use Rattle.adapter_server.specs.Answers.{Answered, Played, PlaysArrival, PlaysOffer, PlaysSettle, PlaysStep}
use Rattle.adapter_server.specs.Sessions.{FitsPlace, begun_recorder, met_agenda, moves_with, target_in, wanted_with, writing_access}
use Rattle.adapter_server.specs.declared.session.AccessPlace.{AccessPlace}
use Rattle.adapter_server.specs.declared.session.AccessPlace.TheVariants.{Memory, Register}
use Rattle.adapter_server.specs.declared.session.Session.{Session}
use Rattle.adapter_server.specs.declared.task.Task.{Task}
use Rattle.adapter_server.specs.declared.task.Task.TheVariants as tasks

-- What the player meets.

-- the kind of the task's access or request in schedules; schedules don't contain `clock_step` and `clock_set`
abbrev pub task_before : Task → Option Before
task_before (tasks.Read place address wanted) = Some Read
task_before (tasks.Write place address bytes) = Some Write
task_before (tasks.Step kind) = Some Request
task_before (tasks.Arrive frame) = Some Request
task_before tasks.Settle = Some Request
task_before (tasks.Offer frame) = Some Request
task_before (tasks.Choose limit) = Some Choice
task_before (tasks.SetClock time) = None

-- the first word of the task's request; an empty text if the task is an access or sets the clock
abbrev pub task_word : Task → Text
task_word (tasks.Read place address wanted) = []
task_word (tasks.Write place address bytes) = []
task_word (tasks.Step kind) = codes "step"
task_word (tasks.Arrive frame) = codes "arrive"
task_word tasks.Settle = codes "settle"
task_word (tasks.Offer frame) = codes "offer"
task_word (tasks.Choose limit) = codes "choose"
task_word (tasks.SetClock time) = []

-- The name of the task's access or request in schedules: the name of an access's target, or the first word of another request. An empty
-- text if the task sets the clock.
abbrev pub task_name : Task → AdapterState → Text
task_name (tasks.Read place address wanted) adapter = target_text (target_in place address adapter)
task_name (tasks.Write place address bytes) adapter = target_text (target_in place address adapter)
task_name task adapter = task_word task

-- the agenda, if there is one, after it has counted the task's access or request; the same agenda if the task sets the clock
abbrev pub task_agenda : Task → AdapterState → Option AgendaState → Option AgendaState
task_agenda task adapter agenda =
    option_map_or (λ (before : Before). met_agenda before (task_name task adapter) agenda) (task_before task) agenda

-- the recorder, if there is one, after it began the task's access or request; the same recorder without an agenda, or if the task sets the
-- clock
abbrev pub task_recorder : Task → AdapterState → Option AgendaState → Option RecorderState → Option RecorderState
task_recorder task adapter agenda recorder =
    option_map_or (λ (before : Before). begun_recorder before (task_name task adapter) agenda recorder) (task_before task) recorder

-- the number that waits for a request `choose`, after the task came: `choose` takes it
abbrev pub task_number : Task → Option ℕ → Option ℕ
task_number (tasks.Choose limit) number = None
task_number task number = number

-- the session after its recorder, if there is a player, began the task's access or request; the same session if the task sets the clock
abbrev pub task_begun : Task → Session → Session
task_begun task session =
    let recorder = task_recorder task session.device.machine.world.adapter session.agenda session.kept.recorder in
    record session { kept = record session.kept { recorder = recorder } }

-- The session after its player, if there is one, has met the task: the recorder began the task's access or request, and the agenda counted
-- it. The task `choose` takes the number that waits for it. The same session if the task sets the clock.
abbrev pub task_met : Task → Session → Session
task_met task session = record (task_begun task session) {
  agenda = task_agenda task session.device.machine.world.adapter session.agenda;
  number = task_number task session.number;
}

-- the moves of the agenda, if there is one, before the task; no moves if the task sets the clock
abbrev pub task_moves : Task → PlayedAdapter → Option AgendaState → List Move
task_moves task device agenda =
    option_map_or (λ (before : Before). moves_with before (task_name task device.machine.world.adapter) device agenda) (task_before task) []

-- the number in the schedule that is due at `choose`, or 0; other tasks use no number
abbrev pub task_wanted : Task → Option AgendaState → ℕ
task_wanted (tasks.Choose limit) agenda = wanted_with Choice (codes "choose") agenda
task_wanted task agenda = 0

-- the number that answers the task `choose`: `number`, if there is one, or else `due`; `due` for other tasks
abbrev pub number_wanted : Task → (number : Option ℕ) → (due : ℕ) → ℕ
number_wanted (tasks.Choose limit) number due = unwrap_or number due
number_wanted task number due = due

-- the line of an access, and after it the name of the access's target
abbrev pub named_line : (said : Text) → Task → Session → Text
named_line said task session = concat (said ∷ codes " -> " ∷ task_name task session.device.machine.world.adapter ∷ [])

-- what the log prints for an access: its line, and after `log targets` also the name of the access's target
abbrev pub task_said : Task → (said : Text) → Session → Text
task_said task said session = if session.targets then named_line said task session else said

-- What is played.

-- The bytes of an access fit the place of the access, and `into` has the number of bytes that a read asks for.
abbrev pub FitsTask : Task → (into : List ℕ) → PlayedAdapter → Type 0
FitsTask (tasks.Read place address wanted) into device = (length into ≡ wanted_size wanted) × FitsPlace place address into device
FitsTask (tasks.Write place address bytes) into device = FitsPlace place address bytes.now device
FitsTask task into device = ⊤

-- These bytes are read at a place. The lowest byte of a register is the first.
abbrev pub ReadsFrom : AccessPlace → (address size : ℕ) → (bytes : List ℕ) → PlayedAdapter → PlayedAdapter → List Told → Type 0
ReadsFrom (Register offset) address size bytes a b told =
    (value : ℕ) × (bytes ≡ to_le_bytes w32 value) × ServesAccess (Reads offset value) a b told
ReadsFrom Memory address size bytes a b told = ServesLoad address size bytes a b told

-- Bytes are read at a place, and these bytes are the answer.
abbrev pub PlaysRead : AccessPlace → (address : ℕ) → Wanted → (line : Text) → PlayedAdapter → PlayedAdapter → List Told → Type 0
PlaysRead place address wanted line a b told =
    (bytes : List ℕ) × (line ≡ answer_line wanted bytes) × ReadsFrom place address (wanted_size wanted) bytes a b told

-- A task is played, and this line is its answer. `wanted` is the number in a schedule that is due at `choose`, or 0.
abbrev pub PlaysTask : Task → (line : Text) → (wanted : ℕ) → PlayedAdapter → PlayedAdapter → List Told → Type 0
PlaysTask (tasks.Read place address form) line wanted a b told = PlaysRead place address form line a b told
PlaysTask (tasks.Write place address bytes) line wanted a b told =
    (line ≡ ok_line) × ServesAccess (writing_access place address bytes.now) a b told
PlaysTask (tasks.Step kind) line wanted a b told = PlaysStep kind line a b told
PlaysTask (tasks.Arrive frame) line wanted a b told = PlaysArrival frame.now line a b told
PlaysTask tasks.Settle line wanted a b told = PlaysSettle line a b told
PlaysTask (tasks.Offer frame) line wanted a b told = PlaysOffer frame.now line a b told
PlaysTask (tasks.Choose limit) line wanted a b told =
    (number : ℕ) × (line ≡ number_line number) × ServesChoice limit wanted number a b told
PlaysTask (tasks.SetClock time) line wanted a b told = (moved : ℕ) × (line ≡ decimal_line time) × ServesSettle moved a b told

-- A task is played, and this is its answer. At an error, the observer is told what it is told if the task is played with some answer.
abbrev pub PlaysTo : {E : Type 0} → Task → Result Answer E → (wanted : ℕ) → PlayedAdapter → PlayedAdapter → List Told → Type 0
PlaysTo task (Ok answer) wanted a b told = PlaysTask task (line_of answer) wanted a b told
PlaysTo task (Err error) wanted a b told = (line : Text) × (c : PlayedAdapter) × PlaysTask task line wanted a c told

-- A task is played after these moves and answered. `wanted` is the number in a schedule that is due at `choose`, or 0.
abbrev pub AnswersAfter : List Move → (wanted : ℕ) → Task → (said : Text) → Session → Session → Text → Type 0
AnswersAfter moves wanted task said a b text = (line : Text)
    × Answered (Played (AfterMoves moves (λ c d told. PlaysTask task line wanted c d told)) said a b) line text

-- The player, if there is one, meets a task, unless the task sets the clock. Then the task is played and answered.
abbrev pub Performs : Task → (said : Text) → Session → Session → Text → Type 0
Performs task said a b text =
    AnswersAfter (task_moves task a.device a.agenda) (number_wanted task a.number (task_wanted task a.agenda)) task said (task_met task a) b
    text
