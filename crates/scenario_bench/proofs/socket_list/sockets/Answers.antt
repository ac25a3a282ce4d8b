use Rattle.std.proofs.Common.{◌∙◌, List, ap, arith}
use Rattle.std.proofs.lemmas.List.{take_all}
use Rattle.network_plan.specs.declared.plan.HostPlan.{HostPlan}
use Rattle.scenario.specs.SoFar.{hosts_of}
use Rattle.scenario_bench.specs.Given.{sockets_from}
use Rattle.scenario_bench.proofs.EmptySockets.{sockets_more}
use Rattle.scenario_bench.proofs.socket_list.sockets.Goals as goal

pub loop-number-preserved : goal.loop-number-preserved
loop-number-preserved c = sockets_more c.args.plans.now c.loop-number.number c.len.result c.index-plans-number.result
    c.index-plans-number.result c.loop-number.sockets.items c.push_sockets.new.sockets.items (omega arith) c.index-plans-number.is
    c.len.ensures.value c.loop-number.invariant c.in_ok-push_sockets.ensures

pub returns : goal.returns
returns c = c.loop-number.invariant
    ∙ ap (λ (plans : List HostPlan). sockets_from 0 (hosts_of plans))
    (take_all c.loop-number.number c.args.plans.now c.loop-number-test.false)
