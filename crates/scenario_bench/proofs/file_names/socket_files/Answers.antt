use Rattle.std.proofs.Common.{ap, arith, length, ◌∙◌}
use Rattle.std.proofs.lemmas.List.{take_all}
use Rattle.scenario_bench.specs.FileNames.{sockets_in}
use Rattle.scenario_bench.proofs.FileNames.{host_more}
use Rattle.scenario_bench.proofs.file_names.socket_files.Goals as goal

pub loop-plan-preserved : goal.loop-plan-preserved
loop-plan-preserved c =
    host_more c.args.plans.now c.loop-plan.plan-index c.plan-item.result c.plan-item.result (length c.loop-plan.names.items)
    (length c.push_socket_files.new.names.items) (omega arith) c.plan-item.is c.loop-plan.invariant c.in_ok-push_socket_files.ensures

pub loop-plan-init : goal.loop-plan-init
loop-plan-init c = ap length c.new-names.ensures.items

pub returns : goal.returns
returns c = c.loop-plan.invariant ∙ ap sockets_in (take_all c.loop-plan.plan-index c.args.plans.now c.loop-plan-test.false)
