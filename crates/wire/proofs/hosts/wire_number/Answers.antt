use borrow.Author.Tests.{tests}
use Rattle.std.proofs.Common.{◌≡◌, ℕ, Option, ap, length, position, rules, string_eq, unwrap_or, ◌∙◌}
use Rattle.std.proofs.lemmas.Iterator.{YieldsList-from_slice}
use Rattle.std.proofs.lemmas.Iterator.Search.{position_from_yields_List}
use Rattle.network_plan.specs.declared.plan.HostPlan.{HostPlan}
use Rattle.wire.proofs.AllHosts.{first-or-all}
use Rattle.wire.proofs.hosts.wire_number.Goals as goal

pub returns : goal.returns
returns c =
    let named = λ (plan : HostPlan). string_eq plan.wire c.args.wire.now in
    let first : c.position.result ≡ position named c.args.plans.now =
    position_from_yields_List named _ _ _ c.position.ensures.ran (YieldsList-from_slice c.args.plans.now cc)
    (λ plan b q called. (search (rules, tests), search (rules, tests))) in
    c.unwrap_or.ensures
    ∙ ap (λ (first : Option ℕ). unwrap_or first (length c.args.plans.now)) first
    ∙ first-or-all named c.args.plans.now
