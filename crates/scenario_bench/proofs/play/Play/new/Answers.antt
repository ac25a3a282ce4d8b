use Rattle.std.proofs.Common.{List, ap, length, map, replicate, ◌∙◌}
use Rattle.std.proofs.lemmas.Result.{err_from_is_err_and}
use Rattle.network_plan.specs.declared.plan.HostPlan.{HostPlan}
use Rattle.run_record.specs.EventLogView.{plan_name}
use Rattle.run_record.specs.RunLogs.{new_log}
use Rattle.run_record.specs.Tallies.{no_tally}
use Rattle.scenario_bench.proofs.play.Play.new.Goals as goal

pub returns-in_err-lan-clause-err : goal.returns-in_err-lan-clause-err
returns-in_err-lan-clause-err c =
    let p = err_from_is_err_and c.from_residual.result c.from_residual.ensures.1 in
    rw (p.1, p.2) c.in_err-lan.ensures

pub returns-in_err-record-clause-err : goal.returns-in_err-record-clause-err
returns-in_err-record-clause-err c =
    let p = err_from_is_err_and c.from_residual-in_err-record.result c.from_residual-in_err-record.ensures.1 in
    rw (p.1, p.2) tt

pub returns-clause-ok : goal.returns-clause-ok
returns-clause-ok c = record {
  made = c.in_ok-lan.ensures;
  number = c.in_ok-record.ensures.number;
  hosts = c.in_ok-record.ensures.hosts ∙ ap (λ (plans : List HostPlan). replicate (length plans) no_tally) c.as_slice.ensures.value;
  returned = c.in_ok-record.ensures.returned;
}

pub returns-clause-puts : goal.returns-clause-puts
returns-clause-puts c = c.in_ok-record.ensures.puts

pub returns-clause-log : goal.returns-clause-log
returns-clause-log c = c.in_ok-record.ensures.log
    ∙ ap (λ (plans : List HostPlan). new_log (map plan_name plans) c.args.events) c.as_slice.ensures.value
