-- The schedule that an adapter plays (our choice).
use Rattle.std.specs.Prelude.{◌≡◌, ◌==◌, ◌⊎◌, ◌&&◌, ℕ, Bool, Err, IsUtf8, List, None, Ok, Option, Result, Some, codes, false}
use Rattle.std.specs.Prelude.{if◌then◌else◌, nat_lt, true}
use Rattle.std.specs.Option.{option_map}
use Rattle.access_names.specs.Names.{target_text}
use Rattle.access_names.specs.declared.target.Target.{Target}
use Rattle.nic82540em.specs.Events.{HearsBetween}
use Rattle.nic82540em.specs.Numbers.{refused}
use Rattle.nic82540em.specs.declared.watched.WatchedAdapter.{WatchedAdapter}
use Rattle.played_adapter.specs.Moves as moves
use Rattle.played_adapter.specs.Order.{InOrder, Tells}
use Rattle.played_adapter.specs.Playing.{Makes}
use Rattle.played_adapter.specs.declared.choices.Move.{Move}
use Rattle.step_schedules.specs.Agendas.{AgendaState, agenda_of}
use Rattle.step_schedules.specs.Players.{chosen}
use Rattle.step_schedules.specs.Schedules.{IsRead, ScheduleValue, schedule_in}
use Rattle.step_schedules.specs.Words.{Text}
use Rattle.step_schedules.specs.declared.deviation.Before.{Before}
use Rattle.step_schedules.specs.declared.deviation.Before.TheVariants.{Choice, Request}
use Rattle.step_schedules.specs.declared.schedule_error.ScheduleError.{ScheduleError}
use Rattle.step_schedules.specs.declared.schedule_error.ScheduleError.TheVariants.{Line, Memory, Text as NoText}

-- These moves are played, and `agenda` is the agenda of the adapter afterwards.
pub record PlaysMoves (next : List Move) (agenda : AgendaState) (a b : WatchedAdapter) : Type 0 where
  -- the moves are played, and the events hear what is told about the moves
  pub plays : Tells HearsBetween a.events b.events (InOrder Makes next a.player b.player)
  -- `agenda` is the agenda after the moves
  pub agenda_is : b.agenda ≡ Some agenda

-- The schedule, if there is one, meets an access of a target with this name: the default steps before the access are played, and then the
-- actions that are due, and the agenda counts the access. Without a schedule, nothing happens.
abbrev pub MeetsName : Before → (name : Text) → Option AgendaState → WatchedAdapter → WatchedAdapter → Type 0
MeetsName before name (Some agenda) a b = PlaysMoves (moves.access_moves before name agenda a.player) (moves.met before name agenda) a b
MeetsName before name None a b = b ≡ a

-- The schedule, if there is one, meets an access of this target.
abbrev pub Meets : Before → Target → WatchedAdapter → WatchedAdapter → Type 0
Meets before target a b = MeetsName before (target_text target) a.agenda a b

-- As `Meets` if `comes` is true. Otherwise nothing happens.
abbrev pub MeetsIf : (comes : Bool) → Before → Target → WatchedAdapter → WatchedAdapter → Type 0
MeetsIf true before target a b = Meets before target a b
MeetsIf false before target a b = b ≡ a

-- The schedule meets an access, as `MeetsIf` defines. Then something happens.
pub record AfterMeeting (comes : Bool) (before : Before) (target : Target) (Happens : WatchedAdapter → WatchedAdapter → Type 0)
    (a b : WatchedAdapter) : Type 0 where
  -- the adapter after the schedule has met the access
  pub met : WatchedAdapter
  -- the schedule meets the access
  pub meets : MeetsIf comes before target a met
  -- then this happens
  pub happens : Happens met b

-- The schedule, if there is one, meets a request with this first word, which begins a round: the actions that are due are played, and the
-- agenda counts the request. Without a schedule, nothing happens.
abbrev pub Begins : (word : Text) → Option AgendaState → WatchedAdapter → WatchedAdapter → Type 0
Begins word (Some agenda) a b = PlaysMoves (moves.request_moves Request word agenda) (moves.met Request word agenda) a b
Begins word None a b = b ≡ a

-- the first word of the request with this number; `None` if no request has the number
abbrev pub request_word : ℕ → Option Text
request_word number =
    if number == 0 then Some (codes "arrive") else if number == 1 then Some (codes "offer") else if number == 2 then Some (codes "step")
    else if number == 3 then Some (codes "settle")
    else None

-- The schedule, if there is one, meets the request with this first word, and the answer is `true`. Without a word, nothing happens, and the
-- answer is `false`.
abbrev pub AnswersWord : Option Text → (answer : Bool) → WatchedAdapter → WatchedAdapter → Type 0
AnswersWord (Some word) answer a b = (answer ≡ true) × Begins word a.agenda a b
AnswersWord None answer a b = (answer ≡ false) × (b ≡ a)

-- As `AnswersWord`, for the request with this number.
abbrev pub RoundAnswered : (number : ℕ) → (answer : Bool) → WatchedAdapter → WatchedAdapter → Type 0
RoundAnswered number answer a b = AnswersWord (request_word number) answer a b

-- the number that the first action due at a request `choose` now chooses, or 0 without such an action or without a schedule
abbrev pub number_chosen : Option AgendaState → ℕ
number_chosen (Some agenda) = chosen (moves.due_in_agenda Choice (codes "choose") agenda)
number_chosen None = 0

-- the agenda of the schedule, if there is one, after it counted a request `choose`
abbrev pub after_choice : Option AgendaState → Option AgendaState
after_choice agenda = option_map (moves.met Choice (codes "choose")) agenda

-- the number of a faulty line if it is from 1 to 0xFFFFFFFE, else `refused`
abbrev pub faulty_line_number : ℕ → ℕ
faulty_line_number line = if nat_lt 0 line && nat_lt line refused then line else refused

-- the number of an error: `faulty_line_number` of the faulty line, if there is a faulty line, else `refused`
abbrev pub error_number : ScheduleError → ℕ
error_number (Line line fault) = faulty_line_number line
error_number NoText = refused
error_number Memory = refused

-- The text is UTF-8, and the result is the agenda of the schedule in the text. Or the result is an error that `IsRead` allows for the text.
abbrev pub IsAgenda : (text : List ℕ) → Result AgendaState ScheduleError → Type 0
IsAgenda text (Ok agenda) =
    IsUtf8 text × ((schedule : ScheduleValue) × (schedule_in text ≡ Ok schedule) × (agenda ≡ agenda_of schedule))
IsAgenda text (Err error) = IsRead text (Err error)

-- the adapter that plays this schedule from now on, and draws no steps before accesses
abbrev pub playing : ScheduleValue → WatchedAdapter → WatchedAdapter
playing schedule a = record a { player = record a.player { most_steps = 0 }; agenda = Some (agenda_of schedule) }

-- The schedule in a text is played from now on.
pub record PlaysText (text : List ℕ) (a b : WatchedAdapter) : Type 0 where
  -- the schedule
  pub schedule : ScheduleValue
  -- the text is UTF-8
  pub is_text : IsUtf8 text
  -- the text has this schedule
  pub schedule_is : schedule_in text ≡ Ok schedule
  -- the adapter plays this schedule from now on
  pub state : b ≡ playing schedule a

-- A text isn't a schedule, or memory is refused, and nothing changes.
pub record RefusesText (text : List ℕ) (answer : ℕ) (a b : WatchedAdapter) : Type 0 where
  -- the error
  pub error : ScheduleError
  -- `IsRead` allows the error for this text
  pub error_is : IsRead text (Err error)
  -- the answer is the number of the error
  pub number : answer ≡ error_number error
  -- nothing changes
  pub state : b ≡ a

-- The answer is 0 if the schedule in the text is played from now on, else the number of an error, which isn't 0.
abbrev pub AnswersPlay : (text : List ℕ) → (answer : ℕ) → WatchedAdapter → WatchedAdapter → Type 0
AnswersPlay text answer a b = ((answer ≡ 0) × PlaysText text a b) ⊎ RefusesText text answer a b
