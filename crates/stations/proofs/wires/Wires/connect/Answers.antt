use Rattle.std.proofs.Common.{rules, ◌≡◌, ◌<◌, ◌↔◌, ℕ, List, ap, length, sym, subst, ◌∙◌}
use Rattle.stations.specs.LogReaders.{end_at}
use Rattle.stations.specs.WireLogs.{LogEntry}
use Rattle.stations.specs.WiresView.{HaveLogs, ends_from}
use Rattle.stations.specs.declared.wires.End.{End}
use Rattle.stations.proofs.NewEnds.{connects, logs-there, more-logs, more-shown, on_err, one-log}
use Rattle.stations.proofs.wires.Wires.connect.Goals as goal

pub log_for-requires-clause-there : goal.log_for-requires-clause-there
log_for-requires-clause-there c =
    subst (λ (ends : List End). (k : ℕ) → k < length ends → (end_at ends k).log < length c.self.inside.logs.items)
    (sym (c.as_slice.ensures.value ∙ c.reserve.ensures.items)) (logs-there c.self.invariant)

pub log_for-requires-clause-one : goal.log_for-requires-clause-one
log_for-requires-clause-one c =
    subst (λ (ends : List End). (j k : ℕ) → j < length ends → k < length ends
    → (end_at ends j).wire ≡ (end_at ends k).wire ↔ ((end_at ends j).log ≡ (end_at ends k).log))
    (sym (c.as_slice.ensures.value ∙ c.reserve.ensures.items)) (one-log c.self.invariant)

pub invariant_of-self-in_err-log : goal.invariant_of-self-in_err-log
invariant_of-self-in_err-log c =
    let es = c.self.inside.ends.items in
    let kept = c.log_for.ensures.kept in
    subst (λ (ends : List End). HaveLogs c.log_for.new.logs.items ends) (sym c.reserve.ensures.items)
    (subst (λ (logs : List (List LogEntry)). HaveLogs logs es) (sym kept.is)
    (more-logs c.self.inside.logs.items kept.more es c.self.invariant))

pub returns-in_err-log-clause-err : goal.returns-in_err-log-clause-err
returns-in_err-log-clause-err c =
    let es = c.self.inside.ends.items in
    let kept = c.log_for.ensures.kept in
    let same = ap (ends_from c.log_for.new.logs.items 0) c.reserve.ensures.items
    ∙ ap (λ (logs : List (List LogEntry)). ends_from logs 0 es) kept.is
    ∙ more-shown c.self.inside.logs.items kept.more es c.self.invariant
    ∙ c.self.view_is in
    on_err c.from_residual-in_err-log.result (ends_from c.log_for.new.logs.items 0 c.reserve.new.self.items ≡ c.args.self.now) same

pub invariant_of-self-2 : goal.invariant_of-self-2
invariant_of-self-2 c = (connects {ends = c.push.new.self.items} c.self.view_is c.self.invariant c.log_for.ensures.kept
    (c.as_slice.ensures.value ∙ c.reserve.ensures.items) c.in_ok-log.ensures.ok c.index.ensures c.len-cursor.ensures.value
    (search rules)).have

pub returns-clause-connected : goal.returns-clause-connected
returns-clause-connected c = (connects {ends = c.push.new.self.items} c.self.view_is c.self.invariant c.log_for.ensures.kept
    (c.as_slice.ensures.value ∙ c.reserve.ensures.items) c.in_ok-log.ensures.ok c.index.ensures c.len-cursor.ensures.value
    (search rules)).shown
