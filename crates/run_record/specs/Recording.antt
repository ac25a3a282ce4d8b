-- How a run changes its record: by its ticks, by the answer to an event, and by events with their replies (our choice).
use Rattle.std.specs.Prelude.{◌≡◌, ◌⊎◌, ◌++◌, ◌∷◌, [], ℕ, List, None, Option, Some, false, length}
use Rattle.std.specs.List.{flat_map, fold}
use Rattle.host_calls.specs.Happenings.{Disabled, Enabled, Happening, tick_happenings}
use Rattle.network_plan.specs.Answers.{FrameAnswer}
use Rattle.network_plan.specs.declared.event.Event.{Event}
use Rattle.network_plan.specs.declared.event.Event.TheVariants as event
use Rattle.network_plan.specs.declared.reply.Reply.{Reply}
use Rattle.stations.specs.ToldTicks.{TickTold}
use Rattle.wire.specs.RunObservers.{happened_of}
use Rattle.wire.specs.Runs.{accepted_by_answer, given_by_answer, said}
use Rattle.run_record.specs.Acts.{ran}
use Rattle.run_record.specs.EventLines.{place_in_run}
use Rattle.run_record.specs.Kept.{FramesGrow, KeptFrame, PutsGrow, put_frames_in, returned_in}
use Rattle.run_record.specs.RunLogs.{log_ended, log_heard}
use Rattle.run_record.specs.Tallies.{AreNoted, TalliesGrow, given_up_of}
use Rattle.run_record.specs.declared.record.Record.{Record}

-- The outcomes of these ticks are counted. Unless memory was refused, the frames that the ticks put are recorded if `old` has a list for
-- them. The texts of the ticks are recorded under the same condition if `old` has lines. By `before`, `failed` is never set to false again.
pub record HearsTicks (old new : Record) (ticks : List TickTold) : Type 0 where
  pub before : new.failed ≡ false → old.failed ≡ false
  pub number : new.number ≡ old.number
  pub returned : new.returned ≡ old.returned
  pub hosts : TalliesGrow (flat_map happened_of ticks) old.hosts.items new.hosts.items
  pub puts : new.failed ≡ false → PutsGrow (put_frames_in old.number (flat_map happened_of ticks)) old.puts new.puts
  pub log : new.failed ≡ false → new.log ≡ fold log_heard old.log ticks

-- the happenings that an event's answer reports: frames accepted by a send, returned by a recv, or given up by a reset
abbrev pub answered : Event → FrameAnswer → List Happening
answered (event.Send host frame ticks) answer = accepted_by_answer host frame.now answer
answered (event.Recv host socket ticks) answer = given_by_answer host socket answer
answered (event.Reset host ticks) answer = given_up_of host answer
answered one answer = []

-- These happenings are counted. The frames that sockets returned in them are recorded, unless memory was refused.
pub record NotesAnswer (happened : List Happening) (old new : Record) : Type 0 where
  pub number : new.number ≡ old.number
  pub puts : new.puts ≡ old.puts
  pub log : new.log ≡ old.log
  pub before : new.failed ≡ false → old.failed ≡ false
  pub hosts : TalliesGrow happened old.hosts.items new.hosts.items
  pub returned : new.failed ≡ false → FramesGrow (returned_in old.number happened) old.returned new.returned

-- Unless memory was refused, the answer is counted if it is a refusal, and the event's line is recorded if lines are recorded.
pub record NotesLine (event : Event) (accesses : ℕ) (answer : FrameAnswer) (old new : Record) : Type 0 where
  pub number : new.number ≡ old.number
  pub hosts : new.hosts.items ≡ old.hosts.items
  pub returned : new.returned ≡ old.returned
  pub puts : new.puts ≡ old.puts
  pub before : new.failed ≡ false → old.failed ≡ false
  pub log : new.failed ≡ false → new.log ≡ log_ended (place_in_run old.number old.line) event accesses answer old.log

-- `happened` consists of `ticked`, the happenings of a reset's ticks in order, and of the happenings of the reset itself at three places
-- between them. These are `Disabled`, then `given_up`, then `Enabled`.
pub record TellsReset (host : ℕ) (given_up ticked happened : List Happening) : Type 0 where
  pub early : List Happening
  pub stopping : List Happening
  pub resting : List Happening
  pub later : List Happening
  pub ticks : ticked ≡ early ++ (stopping ++ (resting ++ later))
  pub all : happened ≡ early ++ Disabled host ∷ (stopping ++ (given_up ++ (resting ++ Enabled host ∷ later)))

-- A reply has its outcomes in order. This restricts only the reply to a reset event. Either its happenings are in the order of
-- `TellsReset`, or its answer isn't that of a reset, such as `NoHost`, and its happenings are only those of its ticks.
abbrev pub IsInOrder : Event → Reply → Type 0
IsInOrder (event.Reset host ticks) reply =
    ((said (event.Reset host ticks) reply ≡ tick_happenings ticks.now reply.outcomes.list) × (given_up_of host reply.answer ≡ []))
    ⊎ TellsReset host (given_up_of host reply.answer) (tick_happenings ticks.now reply.outcomes.list)
    (said (event.Reset host ticks) reply)
IsInOrder one reply = Unit {0}

-- each reply has its outcomes in order, as far as there are an event and a reply at the same index
abbrev pub AreInOrder : List Event → List Reply → Type 0
AreInOrder [] replies = Unit {0}
AreInOrder (event ∷ events) [] = Unit {0}
AreInOrder (event ∷ events) (reply ∷ replies) = IsInOrder event reply × AreInOrder events replies

-- Events and their replies are recorded, and memory wasn't refused before.
pub record RecordsRun (events : List Event) (replies : List Reply) (old new : Record) : Type 0 where
  pub before : old.failed ≡ false
  pub noted : AreNoted (ran events replies) old new

-- There is one reply for each event. Unless memory was refused, the events and their replies are recorded if the replies have their
-- outcomes in order.
pub record RecordsReplies (old new : Record) (events : List Event) (replies : List Reply) : Type 0 where
  pub each : length replies ≡ length events
  pub recorded : new.failed ≡ false → AreInOrder events replies → RecordsRun events replies old new

-- A new record has an empty list for the frames that adapters put. It may have no such list only if `wires`, the number of traces of wires
-- to write, is 0.
abbrev pub IsNewRecord : (wires : ℕ) → Option (List KeptFrame) → Type 0
IsNewRecord wires None = wires ≡ 0
IsNewRecord wires (Some puts) = puts ≡ []
