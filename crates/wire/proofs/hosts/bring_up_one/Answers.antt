use Rattle.std.proofs.Common.{◌≡◌, ◌+◌, [], ap, refl, subst, sym, ◌∙◌}
use Rattle.std.proofs.lemmas.Option.{slice_get_read}
use Rattle.host_calls.specs.Networks.{NetworkState}
use Rattle.stations.specs.Stations.{StationState}
use Rattle.network_plan.specs.declared.plan.HostPlan.{HostPlan}
use Rattle.wire.specs.HostsUp.{AreUp, ComesUp, wire_number}
use Rattle.wire.proofs.AllHosts.{refusal-is, up-can, up-more}
use Rattle.wire.proofs.hosts.bring_up_one.Goals as goal

pub returns-in-Err : goal.returns-in-Err
returns-in-Err c =
    let network = c.args.network.now in
    record {
      up = tt;
      refuses =
          refusal-is c.args.plans.now c.args.number c.index-plans-number.result c.in-Err.error c.refusal.result
          (slice_get_read c.args.plans.now _ c.args.number c.index-plans-number.result refl c.requires.there c.index-plans-number.is)
          (up-can c.args.plans.now c.args.number network.hosts network.stations c.requires.earlier) c.in-Err.ensures.why
          c.refusal.ensures.memory c.refusal.ensures.device;
    }

pub returns-clause-up : goal.returns-clause-up
returns-clause-up c =
    let plans = c.args.plans.now in
    let network = c.args.network.now in
    let one = c.index-plans-number.result in
    let here = slice_get_read plans _ c.args.number one refl c.requires.there c.index-plans-number.is in
    let machine = c.in-Ok.made.1 in
    let station : StationState = record { world = machine.world; wire = c.wire_number-wire.result; backlog = [] } in
    subst (λ (now : NetworkState). AreUp plans (c.args.number + 1) now.hosts now.stations) (sym c.in-Ok-connect.ensures.connected)
    (up-more plans c.args.number network.hosts network.stations c.in-Ok.made.0 station c.requires.earlier (λ plan there.
    let same : one ≡ plan = cc (here, there) in
    subst (λ (p : HostPlan). ComesUp p c.in-Ok.made.0 station) same (c.in-Ok.ensures.comes_up c.wire_number-wire.result))
    (λ plan there.
    let same : one ≡ plan = cc (here, there) in
    c.wire_number-wire.ensures ∙ ap (λ (p : HostPlan). wire_number plans p.wire) same))
