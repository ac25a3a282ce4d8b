-- The numbers of refused calls and the lines in the summary, by the record.
use Rattle.std.proofs.Common.{◌≡◌, ◌++◌, ◌∷◌, [], ℕ, Bool, true, false, List, Some, None, map, option_map}
use Rattle.std.proofs.Common.{if◌then◌else◌, length, refl, sym, ap, ◌∙◌, append_assoc, append-nil}
use Rattle.std.specs.List.{flat_map, fold}
use Rattle.stations.specs.ToldTicks.{TickTold}
use Rattle.network_plan.specs.declared.plan.HostPlan.{HostPlan}
use Rattle.scenario.specs.SoFar.{Host, hosts_of}
use Rattle.run_record.specs.Acts.{Act, Drained, Ran}
use Rattle.run_record.specs.EventLines.{LogState, act_line, drain_logged, end_logged, lines_from}
use Rattle.run_record.specs.EventLines.{place_in_run, tick_told_text, tick_logged}
use Rattle.run_record.specs.EventLines.{told_in}
use Rattle.run_record.specs.EventLogView.{plan_name}
use Rattle.run_record.specs.Numbers.{next_number}
use Rattle.run_record.specs.RunLogs.{act_logged, acts_in, log_heard, logged, new_log, refusals_behind, refusals_by}
use Rattle.run_record.specs.declared.run_log.RunLog.{RunLog}
use Rattle.run_record.specs.declared.run_log.Refusals.{Refusals}

-- Refused calls

refusals-heard : (ticks : List TickTold) (log : RunLog) → (fold log_heard log ticks).refusals ≡ log.refusals
refusals-heard [] log = refl
refusals-heard (told ∷ ticks) log = refusals-heard ticks (log_heard log told)

refusals-act : (number line : ℕ) (act : Act) (log : RunLog)
    → (act_logged (place_in_run number line) act log).refusals ≡ refusals_by log.refusals act
refusals-act number line (Ran event reply) log =
    ap (λ (count : Refusals). refusals_behind count reply.answer) (refusals-heard (told_in event reply) log)
refusals-act number line (Drained host buffered given) log = refl

pub refusals_told : (number : ℕ) (entries : List (ℕ × Act)) (log : RunLog)
    → (logged number entries log).refusals ≡ fold refusals_by log.refusals (acts_in entries)
refusals_told number [] log = refl
refusals_told number (entry ∷ entries) log =
    refusals_told (next_number number) entries (act_logged (place_in_run number entry.0) entry.1 log)
    ∙ ap (λ (count : Refusals). fold refusals_by count (acts_in entries)) (refusals-act number entry.0 entry.1 log)

-- Lines

abbrev ready : (names : List (List ℕ)) → (text : List ℕ) → LogState
ready names text = record { names = names; outcomes = []; text = text }

heard-lines : (ticks : List TickTold) (log : RunLog) (state : LogState) → log.lines ≡ Some state
    → (fold log_heard log ticks).lines ≡ Some (fold tick_logged state ticks)
heard-lines [] log state is = is
heard-lines (told ∷ ticks) log state is =
    heard-lines ticks (log_heard log told) (tick_logged state told)
    (ap (option_map (λ (lines : LogState). tick_logged lines told)) is)

all-heard : (ticks : List TickTold) (state : LogState)
    → fold tick_logged state ticks ≡ record state { outcomes = state.outcomes ++ flat_map (tick_told_text state.names) ticks }
all-heard [] state = ap (λ (outcomes : List ℕ). record state { outcomes = outcomes }) (sym (append-nil state.outcomes))
all-heard (told ∷ ticks) state =
    all-heard ticks (tick_logged state told)
    ∙ ap (λ (outcomes : List ℕ). record state { outcomes = outcomes })
    (append_assoc state.outcomes (tick_told_text state.names told) (flat_map (tick_told_text state.names) ticks))

act-lines : (number line : ℕ) (act : Act) (log : RunLog) (names : List (List ℕ)) (text : List ℕ) → log.lines ≡ Some (ready names text)
    → (act_logged (place_in_run number line) act log).lines ≡ Some (ready names (text ++ act_line names (place_in_run number line) act))
act-lines number line (Ran event reply) log names text is =
    let ticks = told_in event reply in
    ap (option_map (end_logged (place_in_run number line) event reply.accesses reply.answer))
    (heard-lines ticks log (ready names text) is ∙ ap (λ (state : LogState). Some state) (all-heard ticks (ready names text)))
act-lines number line (Drained host buffered given) log names text is =
    ap (option_map (drain_logged (place_in_run number line) host (length given))) is

lines-logged : (number : ℕ) (entries : List (ℕ × Act)) (log : RunLog) (names : List (List ℕ)) (text : List ℕ)
    → log.lines ≡ Some (ready names text)
    → (logged number entries log).lines ≡ Some (ready names (text ++ lines_from names number entries))
lines-logged number [] log names text is =
    is ∙ ap (λ (all : List ℕ). Some (ready names all)) (sym (append-nil text))
lines-logged number (entry ∷ entries) log names text is =
    let place = place_in_run number entry.0 in
    let line = act_line names place entry.1 in
    lines-logged (next_number number) entries (act_logged place entry.1 log) names (text ++ line)
    (act-lines number entry.0 entry.1 log names text is)
    ∙ ap (λ (all : List ℕ). Some (ready names all)) (append_assoc text line (lines_from names (next_number number) entries))

heard-none : (ticks : List TickTold) (log : RunLog) → log.lines ≡ None → (fold log_heard log ticks).lines ≡ None
heard-none [] log is = is
heard-none (told ∷ ticks) log is =
    heard-none ticks (log_heard log told) (ap (option_map (λ (lines : LogState). tick_logged lines told)) is)

act-none : (number line : ℕ) (act : Act) (log : RunLog) → log.lines ≡ None → (act_logged (place_in_run number line) act log).lines ≡ None
act-none number line (Ran event reply) log is =
    ap (option_map (end_logged (place_in_run number line) event reply.accesses reply.answer)) (heard-none (told_in event reply) log is)
act-none number line (Drained host buffered given) log is = ap (option_map (drain_logged (place_in_run number line) host (length given))) is

none-logged : (number : ℕ) (entries : List (ℕ × Act)) (log : RunLog) → log.lines ≡ None → (logged number entries log).lines ≡ None
none-logged number [] log is = is
none-logged number (entry ∷ entries) log is =
    let place = place_in_run number entry.0 in
    none-logged (next_number number) entries (act_logged place entry.1 log) (act-none number entry.0 entry.1 log is)

pub lines_told : (events : Bool) (names : List (List ℕ)) (entries : List (ℕ × Act))
    → option_map (λ (log : LogState). log.text) (logged 0 entries (new_log names events)).lines
    ≡ (if events then Some (lines_from names 0 entries) else None)
lines_told true names entries =
    ap (option_map (λ (log : LogState). log.text)) (lines-logged 0 entries (new_log names true) names [] refl)
lines_told false names entries =
    ap (option_map (λ (log : LogState). log.text)) (none-logged 0 entries (new_log names false) refl)

pub same_names : (plans : List HostPlan) → map plan_name plans ≡ map (λ (host : Host). host.name) (hosts_of plans)
same_names [] = refl
same_names (plan ∷ plans) = ap (λ (names : List (List ℕ)). plan_name plan ∷ names) (same_names plans)
