-- What a line is in a schedule, before it is answered (our choice).
use Rattle.std.specs.Prelude.{◌≡◌, ◌<◌, ◌≤◌, ℕ, Err, IsUtf8, None, Ok, Option, Result, Some, codes, length, string_bytes, true, false}
use Rattle.std.specs.Option.{option_map, option_map_or}
use Rattle.access_names.specs.Names.{target_text}
use Rattle.adapter.specs.State.{AdapterState}
use Rattle.server_output.specs.Texts.{Text}
use Rattle.server_requests.specs.Lines.{most_line_bytes}
use Rattle.server_requests.specs.Reading.{request_in}
use Rattle.server_requests.specs.Widths.{wanted_size}
use Rattle.server_requests.specs.Words.{words_of}
use Rattle.server_requests.specs.declared.refusal.Refusal.{Refusal}
use Rattle.server_requests.specs.declared.request.Request.{Request}
use Rattle.server_requests.specs.declared.request.Request.TheVariants as requests
use Rattle.step_schedules.specs.Agendas.{AgendaState, coming}
use Rattle.step_schedules.specs.declared.deviation.Before.{Before}
use Rattle.step_schedules.specs.declared.deviation.Before.TheVariants.{Choice, Read, Request as AnyRequest, Write}
use Rattle.step_schedules.specs.declared.deviation.Place.{Place}
use Rattle.adapter_server.specs.LineServers.{LineState}
use Rattle.adapter_server.specs.Sessions.{place_in, target_at_place}
use Rattle.adapter_server.specs.Tasks.{task_before, task_name}
use Rattle.adapter_server.specs.declared.coming.Coming.{Coming}
use Rattle.adapter_server.specs.declared.session.AccessPlace.{AccessPlace}
use Rattle.adapter_server.specs.declared.session.Session.{Session}
use Rattle.adapter_server.specs.declared.task.Task.{Task}
use Rattle.adapter_server.specs.declared.task.Task.TheVariants as tasks

-- what a request is in a schedule, without its place
pub record Met : Type 0 where
  -- the number of its kind: 1 a read, 2 a write, 3 `arrive`, 4 `offer`, 5 `step`, 6 `settle`, 7 `choose`
  pub kind : ℕ
  -- its kind and its name in schedules
  pub before : Before
  pub name : Text
  -- the address of a read or a write, else 0
  pub address : ℕ
  -- the limit of `choose`, else 0
  pub limit : ℕ

-- what a line is in a schedule
pub record ComingValue : Type 0 where
  pub kind : ℕ
  pub place : Place
  pub address : ℕ
  pub limit : ℕ
  pub name : Text

-- what a line is in a schedule, as plain data
abbrev pub coming_value : Coming → ComingValue
coming_value coming = record {
  kind = coming.kind;
  place = coming.place;
  address = coming.address;
  limit = coming.limit;
  name = string_bytes coming.name;
}

-- An access of this kind at this place. Without a place, the access is refused.
abbrev pub access_met : (kind : ℕ) → Before → Result AccessPlace Refusal → (address : ℕ) → Session → Option Met
access_met kind before (Ok place) address session = Some (record {
  kind = kind;
  before = before;
  name = target_text (target_at_place place address session);
  address = address;
  limit = 0;
})
access_met kind before (Err refusal) address session = None

-- a request that begins a round, with this first word
abbrev pub round_met : (kind : ℕ) → (word : Text) → Option Met
round_met kind word = Some (record { kind = kind; before = AnyRequest; name = word; address = 0; limit = 0 })

-- a request for a number below this limit
abbrev pub choice_met : (limit : ℕ) → Option Met
choice_met limit = Some (record { kind = 7; before = Choice; name = codes "choose"; address = 0; limit = limit })

-- what a request is in a schedule, if schedules contain it
abbrev pub request_met : Request → Session → Option Met
request_met (requests.Read wanted address) session = access_met 1 Read (place_in session address (wanted_size wanted)) address session
request_met (requests.Write address bytes) session = access_met 2 Write (place_in session address (length bytes)) address session
request_met (requests.Arrive frame) session = round_met 3 (codes "arrive")
request_met (requests.Offer frame) session = round_met 4 (codes "offer")
request_met (requests.Step kind) session = round_met 5 (codes "step")
request_met requests.Settle session = round_met 6 (codes "settle")
request_met (requests.Choose limit) session = choice_met limit
request_met request session = None

-- what comes at the next place of its kind, if there is an agenda
abbrev pub comes_at : Met → Option AgendaState → Option ComingValue
comes_at met agenda = option_map (λ (agenda : AgendaState). record {
  kind = met.kind;
  place = (coming met.before met.name agenda).place;
  address = met.address;
  limit = met.limit;
  name = met.name;
}) agenda

-- what comes, if there is something
abbrev pub met_comes : Option Met → Session → Option ComingValue
met_comes met session = option_map_or (λ (met : Met). comes_at met session.agenda) met None

-- what the request of a line is in a schedule; nothing if the line is refused
abbrev pub asked_comes : Result Request Refusal → Session → Option ComingValue
asked_comes (Ok request) session = met_comes (request_met request session) session
asked_comes (Err refusal) session = None

-- What a line is in a schedule, if it comes now.
pub record Comes (line : Text) (session : Session) (comes : Option ComingValue) : Type 0 where
  -- a line that is too long is refused
  pub long : most_line_bytes < length line → comes ≡ None
  -- what the request of another line in UTF-8 is
  pub asked : length line ≤ most_line_bytes → IsUtf8 line → comes ≡ asked_comes (request_in (words_of line)) session
  -- a line that isn't UTF-8 is refused
  pub other : (¬ (IsUtf8 line)) → comes ≡ None

-- The answer is what a line is in a schedule, unless memory was refused, now or before. The server and its texts don't change.
pub record ComesNext (line : Text) (answer : Option Coming) (a b : LineState) : Type 0 where
  -- nothing changes, except that memory may be refused
  pub same : b ≡ record a { dead = b.dead }
  -- if memory was refused before, it still is
  pub dead : a.dead ≡ true → b.dead ≡ true
  -- if memory was refused, there is no answer
  pub refused : b.dead ≡ true → answer ≡ None
  -- if memory wasn't refused, the answer is what the line is
  pub comes : b.dead ≡ false → Comes line a.server.session (option_map coming_value answer)

-- Tasks.

-- the number of the task's kind, or 0 if the task sets the clock
abbrev pub task_kind : Task → ℕ
task_kind (tasks.Read place address wanted) = 1
task_kind (tasks.Write place address bytes) = 2
task_kind (tasks.Arrive frame) = 3
task_kind (tasks.Offer frame) = 4
task_kind (tasks.Step kind) = 5
task_kind tasks.Settle = 6
task_kind (tasks.Choose limit) = 7
task_kind (tasks.SetClock time) = 0

-- the address of a read or a write, or 0 for another task
abbrev pub task_address : Task → ℕ
task_address (tasks.Read place address wanted) = address
task_address (tasks.Write place address bytes) = address
task_address task = 0

-- the limit of `choose`, or 0 for another task
abbrev pub task_limit : Task → ℕ
task_limit (tasks.Choose limit) = limit
task_limit task = 0

-- what a task is in a schedule, if schedules contain it
abbrev pub task_met : Task → AdapterState → Option Met
task_met task adapter = option_map (λ (before : Before). record {
  kind = task_kind task;
  before = before;
  name = task_name task adapter;
  address = task_address task;
  limit = task_limit task;
}) (task_before task)

-- what a task is in a schedule, if it comes now
abbrev pub task_comes : Task → Session → Option ComingValue
task_comes task session = met_comes (task_met task session.device.machine.world.adapter) session

-- The task is that of a request, or there is none because schedules don't contain the request.
abbrev pub IsTaskOf : Request → Session → Option Task → Type 0
IsTaskOf request session (Some task) = task_met task session.device.machine.world.adapter ≡ request_met request session
IsTaskOf request session None = request_met request session ≡ None
