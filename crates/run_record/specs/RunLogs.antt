-- The numbers of refused calls and the lines in the record of a run, and how events and drains change them (our choice).
use Rattle.std.specs.Prelude.{◌≡◌, ◌∷◌, [], ℕ, Bool, List, Some, None, Err, if◌then◌else◌, length, map}
use Rattle.std.specs.Prelude.{option_map}
use Rattle.std.specs.List.{fold}
use Rattle.network_plan.specs.Answers.{FrameAnswer}
use Rattle.network_plan.specs.declared.event.Event.{Event}
use Rattle.network_plan.specs.declared.reply.Answer.TheVariants as answer
use Rattle.packet_socket.specs.declared.receive.RecvError.TheVariants as recv
use Rattle.stations.specs.ToldTicks.{TickTold}
use Rattle.run_record.specs.Acts.{Act, Drained, Ran}
use Rattle.run_record.specs.EventLines.{LogState, drain_logged, end_logged, no_lines, place_in_run, tick_logged, told_in}
use Rattle.run_record.specs.Numbers.{next_number}
use Rattle.run_record.specs.declared.record.Record.{Record}
use Rattle.run_record.specs.declared.run_log.RunLog.{RunLog}
use Rattle.run_record.specs.declared.run_log.Refusals.{Refusals}
use Rattle.run_record.specs.declared.event_text.Place.{Place}

-- no call was refused
abbrev pub no_refusals : Refusals
no_refusals = record { sends = 0; groups = 0; sockets = 0 }

-- The numbers of refused calls after an answer. An answer counts if it refuses a send, a join or a leave, or if it reports that a socket
-- doesn't exist.
abbrev pub refusals_behind : Refusals → FrameAnswer → Refusals
refusals_behind count (answer.Sent (Err error)) = record count { sends = next_number count.sends }
refusals_behind count (answer.Joined (Err error)) = record count { groups = next_number count.groups }
refusals_behind count (answer.Left (Err error)) = record count { groups = next_number count.groups }
refusals_behind count (answer.Received (Err recv.NoSocket)) = record count { sockets = next_number count.sockets }
refusals_behind count one = count

-- the numbers of refused calls after an act
abbrev pub refusals_by : Refusals → Act → Refusals
refusals_by count (Ran event reply) = refusals_behind count reply.answer
refusals_by count (Drained host buffered given) = count

-- The log.

-- the log before the first event or drain: no call was refused, and there is no line; lines are recorded if `events` is true
abbrev pub new_log : (names : List (List ℕ)) → (events : Bool) → RunLog
new_log names events = record { refusals = no_refusals; lines = if events then Some (no_lines names) else None }

-- the log after an answer, which is counted if it is a refusal (`refusals_behind`); the lines don't change
abbrev pub answered_log : FrameAnswer → RunLog → RunLog
answered_log one log = record log { refusals = refusals_behind log.refusals one }

-- the log after a tick: the tick's text, with its outcome, is recorded if lines are recorded
abbrev pub log_heard : RunLog → TickTold → RunLog
log_heard log told = record log { lines = option_map (λ (lines : LogState). tick_logged lines told) log.lines }

-- the log after the answer to an event: the answer is counted if it is a refusal, and the event's line is appended if lines are recorded
abbrev pub log_ended : Place → Event → (accesses : ℕ) → FrameAnswer → RunLog → RunLog
log_ended place event accesses one log =
    answered_log one (record log { lines = option_map (end_logged place event accesses one) log.lines })

-- the log after a drain in which a host returned `count` frames: the drain's line is appended if lines are recorded
abbrev pub act_drained : Place → (host count : ℕ) → RunLog → RunLog
act_drained place host count log = record log { lines = option_map (drain_logged place host count) log.lines }

-- the log after an act
abbrev pub act_logged : Place → Act → RunLog → RunLog
act_logged place (Ran event reply) log =
    log_ended place event reply.accesses reply.answer (fold log_heard log (told_in event reply))
act_logged place (Drained host buffered given) log = act_drained place host (length given) log

-- The log after acts, in order, each given with the number of its line in the scenario. The first act has the number `number`.
abbrev pub logged : (number : ℕ) → List (ℕ × Act) → RunLog → RunLog
logged number [] log = log
logged number (entry ∷ entries) log =
    logged (next_number number) entries (act_logged (place_in_run number entry.0) entry.1 log)

-- the acts without the numbers of their lines
abbrev pub acts_in : List (ℕ × Act) → List Act
acts_in entries = map (λ (entry : ℕ × Act). entry.1) entries

-- These acts were recorded in the log, in order, each with some line number. The first act has the number `old.number`.
pub record AreLogged (acts : List Act) (old new : Record) : Type 0 where
  pub entries : List (ℕ × Act)
  pub are : acts_in entries ≡ acts
  pub log : new.log ≡ logged old.number entries old.log
