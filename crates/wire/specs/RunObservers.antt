-- What an observer of a run is told (our choice).
use Rattle.std.specs.Prelude.{◌≡◌, ◌≤◌, ◌++◌, ◌∷◌, [], ℕ, List, length, map}
use Rattle.adapter.specs.TickGroups.{without_go}
use Rattle.host_calls.specs.Happenings.{Happening, tick_host, outcome_happenings}
use Rattle.stations.specs.AtomicRuns.{is_go}
use Rattle.stations.specs.Outcomes.{note_of}
use Rattle.stations.specs.ToldTicks.{TickTold}
use Rattle.network_plan.specs.Answers.{FrameAnswer, ticks_of}
use Rattle.network_plan.specs.EventCalls.{Alone, ByCall, ByReset, EventKind, in_event}
use Rattle.stations.specs.declared.tick.Tick.{Tick}
use Rattle.network_plan.specs.declared.event.Event.{Event}
use Rattle.network_plan.specs.declared.reply.Reply.{Reply}

-- The observer has room for the answer of this event, and for one outcome for each tick of the event, including each
-- Go.
pub record HasRoomForEvent {O : Type 0} (ready : O → Event → Type 0) (room_left : O → ℕ) (event : Event) (now : O) : Type 0 where
  pub answer : ready now event
  pub ticks : length (ticks_of event) ≤ room_left now

-- The ticks of an event whose outcomes are told, in order. In a call or a reset, these are all ticks except each Go.
-- Outside a call, this is the one tick, even if it is Go.
abbrev pub ticks_played : EventKind → List Tick
ticks_played (ByCall call) = without_go is_go call.ticks
ticks_played (ByReset host ticks) = without_go is_go ticks
ticks_played (Alone tick) = tick ∷ []

-- the ticks of an event whose outcomes are told, in order (`ticks_played`)
abbrev pub played_ticks : Event → List Tick
played_ticks event = ticks_played (in_event event)

-- the tick whose outcome was told
abbrev pub tick_in : TickTold → Tick
tick_in told = told.tick

-- the happening of a tick whose outcome was told, if any, as a list
abbrev pub happened_of : TickTold → List Happening
happened_of told = outcome_happenings (tick_host told.tick) told.outcome

-- The observer was told one outcome for each of the ticks `played_ticks` of this event, in order. The definition
-- doesn't state the outcomes themselves.
abbrev pub AreOfTicks : Event → List TickTold → Type 0
AreOfTicks event ticks = map tick_in ticks ≡ played_ticks event

-- How an event ended: its number of accesses, its answer, and what an observer was told of its ticks.
pub record EventEnding : Type 0 where
  pub accesses : ℕ
  pub answer : FrameAnswer
  pub ticks : List TickTold

-- the ending with these accesses, this answer and these ticks
abbrev pub ending : (accesses : ℕ) → FrameAnswer → List TickTold → EventEnding
ending accesses answer ticks = record { accesses = accesses; answer = answer; ticks = ticks }

-- The reply contains the number of accesses and the answer of `ending`, and the outcomes of its ticks.
pub record StatesEnding (ending : EventEnding) (reply : Reply) : Type 0 where
  pub answer : reply.answer ≡ ending.answer
  pub accesses : reply.accesses ≡ ending.accesses
  pub outcomes : reply.outcomes.list ≡ map note_of ending.ticks

-- The observer was told the contents of a reply to the event `event`, which ended as `ending` states.
pub record TellsReply {O : Type 0} (ran : O → O → List Event → List Reply → Type 0) (event : Event) (ending : EventEnding) (old new : O)
    : Type 0 where
  pub reply : Reply
  pub replies : StatesEnding ending reply
  pub told : ran old new (event ∷ []) (reply ∷ [])

-- The observer was told the contents of a reply to this event, and `Holds` is true of the reply.
pub record EventTold {O : Type 0} (ran : O → O → List Event → List Reply → Type 0) (event : Event) (old new : O) (Holds : Reply → Type 0)
    : Type 0 where
  pub reply : Reply
  pub holds : Holds reply
  pub told : ran old new (event ∷ []) (reply ∷ [])

-- An observer that was told nothing was told no reply. In two consecutive intervals together, the observer was told the replies of both,
-- in order. Ticks don't use the observer's room for an answer.
pub record ComposesRuns {O : Type 0} (heard : O → O → List TickTold → Type 0) (ran : O → O → List Event → List Reply → Type 0)
    (ready : O → Event → Type 0) : Type 0 where
  pub quiet : (a b : O) → heard a b [] → ran a b [] []
  pub joins : (a b c : O) (events later : List Event) (replies others : List Reply) → ran a b events replies → ran b c later others
      → ran a c (events ++ later) (replies ++ others)
  pub keeps_room : (a b : O) (event : Event) (told : List TickTold) → heard a b told → ready a event → ready b event
