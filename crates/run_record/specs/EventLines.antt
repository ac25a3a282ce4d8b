-- The line of each event and drain in the log of a run, and the log itself (our choice).
use Rattle.std.specs.Prelude.{◌++◌, ◌∷◌, [], ℕ, List, codes, length}
use Rattle.std.specs.List.{flat_map}
use Rattle.network_plan.specs.Answers.{FrameAnswer}
use Rattle.network_plan.specs.declared.event.Event.{Event}
use Rattle.network_plan.specs.declared.reply.Reply.{Reply}
use Rattle.stations.specs.ToldTicks.{TickTold, tick_told}
use Rattle.stations.specs.declared.outcomes.Numbered.{Numbered}
use Rattle.stations.specs.declared.tick.Tick.{Tick}
use Rattle.wire.specs.RunObservers.{played_ticks}
use Rattle.run_record.specs.Acts.{Act, Drained, Ran}
use Rattle.run_record.specs.EventTexts.{answer_text, event_text, name_at, numbered, tick_line_text}
use Rattle.run_record.specs.Numbers.{next_number}
use Rattle.run_record.specs.declared.event_text.Place.{Place}

-- the text of a tick, with the number of its call's accesses before it, and with its outcome
abbrev pub tick_told_text : (names : List (List ℕ)) → TickTold → List ℕ
tick_told_text names told = tick_line_text names told.tick told.accesses told.outcome

-- `EVENT line LINE`: the number of the event or drain, and the number of its line
abbrev pub place_text : Place → List ℕ
place_text place = numbered [] place.number ++ numbered (codes " line ") place.line

-- `EVENT line LINE CALL ANSWER accesses N`, then `outcomes`, the text of the event's ticks, and a line feed; `Ticked` has no ANSWER
abbrev pub event_line : (names : List (List ℕ)) → Place → Event → (accesses : ℕ) → FrameAnswer → (outcomes : List ℕ) → List ℕ
event_line names place event accesses answer outcomes =
    place_text place ++ event_text names event ++ answer_text answer ++ numbered (codes " accesses ") accesses ++ outcomes ++ codes "\n"

-- `EVENT line LINE drain HOST ok N` and a line feed: the host returned N frames
abbrev pub drain_line : (names : List (List ℕ)) → Place → (host count : ℕ) → List ℕ
drain_line names place host count =
    place_text place ++ (codes " drain " ++ name_at names host) ++ numbered (codes " ok ") count ++ codes "\n"

-- each tick with the outcome at the same index; the list ends with the shorter of the two lists
abbrev pub paired : List Tick → List Numbered → List TickTold
paired [] outcomes = []
paired (tick ∷ ticks) [] = []
paired (tick ∷ ticks) (one ∷ outcomes) = tick_told tick one.accesses one.outcome ∷ paired ticks outcomes

-- the ticks `played_ticks` of an event, each with its outcome in the reply
abbrev pub told_in : Event → Reply → List TickTold
told_in event reply = paired (played_ticks event) reply.outcomes.list

-- the line of an act at this place in the run and the scenario
abbrev pub act_line : (names : List (List ℕ)) → Place → Act → List ℕ
act_line names place (Ran event reply) =
    event_line names place event reply.accesses reply.answer (flat_map (tick_told_text names) (told_in event reply))
act_line names place (Drained host buffered given) = drain_line names place host (length given)

-- the place of an event or a drain, from its number and the number of its line
abbrev pub place_in_run : (number line : ℕ) → Place
place_in_run number line = record { number = number; line = line }

-- The lines of these acts, each given with the number of its line in the scenario. The first act has number `number`, the next act
-- `next_number number`.
abbrev pub lines_from : (names : List (List ℕ)) → (number : ℕ) → List (ℕ × Act) → List ℕ
lines_from names number [] = []
lines_from names number (entry ∷ entries) =
    act_line names (place_in_run number entry.0) entry.1 ++ lines_from names (next_number number) entries

-- A log.

-- the state of a log, during an event or between two events
pub record LogState : Type 0 where
  -- the names of the hosts
  pub names : List (List ℕ)
  -- the text of the ticks so far of the event that is played, with their outcomes; empty between two events
  pub outcomes : List ℕ
  -- the lines of the events and drains before this event
  pub text : List ℕ

-- the log of hosts with these names, without ticks and lines
abbrev pub no_lines : (names : List (List ℕ)) → LogState
no_lines names = record { names = names; outcomes = []; text = [] }

-- the log after a tick: the tick's text is appended to `outcomes`
abbrev pub tick_logged : LogState → TickTold → LogState
tick_logged log told = record log { outcomes = log.outcomes ++ tick_told_text log.names told }

-- the log after the end of an event: the event's line is appended, and `outcomes` is emptied
abbrev pub end_logged : Place → Event → (accesses : ℕ) → FrameAnswer → LogState → LogState
end_logged place event accesses answer log =
    record log { outcomes = []; text = log.text ++ event_line log.names place event accesses answer log.outcomes }

-- the log after a drain: the drain's line is appended
abbrev pub drain_logged : Place → (host count : ℕ) → LogState → LogState
drain_logged place host count log = record log { text = log.text ++ drain_line log.names place host count }
