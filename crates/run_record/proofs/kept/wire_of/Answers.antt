use Rattle.std.proofs.Common.{[], Option, ap, option_map, sym, unwrap_or, ◌∙◌}
use Rattle.std.proofs.lemmas.Option.{slice_get-map}
use Rattle.scenario.specs.SoFar.{Host, host_of_plan}
use Rattle.run_record.proofs.Found.{item-found, none-found}
use Rattle.run_record.proofs.kept.wire_of.Goals as goal

pub returns-in-Some : goal.returns-in-Some
returns-in-Some c =
    let plans = c.args.plans.now in
    let found = item-found plans c.args.host c.in-Some.plan.now c.in-Some.ensures.lookup.0 c.in-Some.ensures.lookup.1 in
    c.as_str.ensures.value
    ∙ sym (ap (λ (one : Option Host). unwrap_or (option_map (λ (host : Host). host.wire) one) [])
    (slice_get-map host_of_plan plans c.args.host ∙ ap (option_map host_of_plan) found))

pub returns-in-None : goal.returns-in-None
returns-in-None c =
    let plans = c.args.plans.now in
    sym (ap (λ (one : Option Host). unwrap_or (option_map (λ (host : Host). host.wire) one) [])
    (slice_get-map host_of_plan plans c.args.host
    ∙ ap (option_map host_of_plan) (none-found plans c.args.host c.in-None.ensures.lookup.0)))
