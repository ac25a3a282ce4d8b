use borrow.Author.Tests.{tests}
use Rattle.std.proofs.Common.{◌∙◌, sym, rules}
use Rattle.std.proofs.lemmas.Iterator.{YieldsList-from_slice}
use Rattle.std.proofs.lemmas.Iterator.Search.{position_from_yields_List}
use Rattle.network_plan.specs.declared.plan.HostPlan.{HostPlan}
use Rattle.scenario.specs.SoFar.{has_name, host_of_plan}
use Rattle.scenario.proofs.Places.{position-map}
use Rattle.scenario.proofs.tick_word.host_named.Goals as goal

pub returns-clause-place : goal.returns-clause-place
returns-clause-place c =
    let name = c.args.name.now in
    position_from_yields_List (λ (plan : HostPlan). has_name name (host_of_plan plan)) _ _ _ c.position.ensures.ran
    (YieldsList-from_slice c.args.hosts.now cc) (λ x b q k. (search (rules, tests), search (rules, tests)))
    ∙ sym (position-map (has_name name) host_of_plan c.args.hosts.now)
