use Rattle.std.proofs.Common.{◌≡◌, ℕ, List, arith, length, subst, sym}
use Rattle.std.proofs.lemmas.Result.{IfOk-from_err}
use Rattle.host_calls.specs.Networks.{NetworkState}
use Rattle.network_plan.specs.Plans.{HasConfigs}
use Rattle.network_plan.specs.declared.plan.HostPlan.{HostPlan}
use Rattle.wire.specs.HostsUp.{AreUp, IsRefusal, ShareWires}
use Rattle.wire.proofs.AllHosts.{share-wires, up-none}
use Rattle.wire.proofs.Telling.{passed-on}
use Rattle.wire.proofs.hosts.bring_up.Goals as goal

pub loop-number-init : goal.loop-number-init
loop-number-init c =
    subst (λ (network : NetworkState). AreUp c.as_slice-plans.result.now 0 network.hosts network.stations) (sym c.new-network.ensures)
    (up-none c.as_slice-plans.result.now)

pub bring_up_one-requires : goal.bring_up_one-requires
bring_up_one-requires c = record {
  there = c.loop-number-test.true;
  configs = subst HasConfigs (sym c.as_slice-plans.ensures.value) c.requires;
  earlier = c.loop-number.invariant;
}

pub returns-in_err-bring_up_one : goal.returns-in_err-bring_up_one
returns-in_err-bring_up_one c = record {
  up = IfOk-from_err c.from_residual.result _ c.from_residual.ensures.0;
  wires = IfOk-from_err c.from_residual.result _ c.from_residual.ensures.0;
  refuses =
      passed-on c.from_residual.result c.in_err-bring_up_one.field-0.0 (IsRefusal c.args.plan.now.hosts.items) c.from_residual.ensures.1
      (subst (λ (plans : List HostPlan). IsRefusal plans c.in_err-bring_up_one.field-0.0) c.as_slice-plans.ensures.value
      c.in_err-bring_up_one.ensures.refuses);
}

pub loop-number-preserved : goal.loop-number-preserved
loop-number-preserved c = c.in_ok-bring_up_one.ensures.up

pub returns-clause-up : goal.returns-clause-up
returns-clause-up c =
    let network = c.loop-number.network in
    let all : c.loop-number.number ≡ length c.as_slice-plans.result.now =
    omega (arith, c.loop-number-test.false, c.loop-number.auto.number-end) in
    subst (λ (plans : List HostPlan). AreUp plans (length plans) network.hosts network.stations) c.as_slice-plans.ensures.value
    (subst (λ (count : ℕ). AreUp c.as_slice-plans.result.now count network.hosts network.stations) all c.loop-number.invariant)

pub returns-clause-wires : goal.returns-clause-wires
returns-clause-wires c =
    subst (λ (plans : List HostPlan). ShareWires plans c.loop-number.network.stations) c.as_slice-plans.ensures.value
    (share-wires c.as_slice-plans.result.now c.loop-number.number c.loop-number.network.hosts c.loop-number.network.stations
    c.loop-number.invariant)
