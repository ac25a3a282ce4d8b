use Rattle.std.proofs.Common.{◌≡◌, ◌∙◌, ◌++◌, List, [], ◌∷◌, ap, refl}
use Rattle.std.proofs.lemmas.List.{map-append}
use Rattle.network_plan.specs.declared.plan.HostPlan.{HostPlan}
use Rattle.scenario.specs.Meanings.{host_described}
use Rattle.scenario.specs.SoFar.{Host, host_of_plan, hosts_of}
use Rattle.scenario.proofs.host_change.add_host.Goals as goal

pub returns : goal.returns
returns c =
    let options = c.args.options in
    let old = c.args.hosts.now.items in
    let described = host_described c.args.name.now c.args.address c.args.wire.now options in
    let plan : HostPlan = record {
      name = c.in_ok-name.name;
      wire = c.in_ok-wire.wire;
      image = c.with_address.result;
      link = options.link;
      config = record described.config { groups = c.new.result };
      sockets = c.new-2.result;
    } in
    let host : host_of_plan plan ≡ described =
    rw (c.in_ok-name.ensures.ok, c.in_ok-wire.ensures.ok, c.with_address.ensures.words, c.new.ensures, c.new-2.ensures) refl in
    ap hosts_of (c.push_reserved.ensures.items ∙ ap (λ (plans : List HostPlan). plans ++ plan ∷ []) c.reserve.ensures.items)
    ∙ map-append host_of_plan old (plan ∷ []) ∙ ap (λ (host : Host). hosts_of old ++ host ∷ []) host
