use Rattle.std.proofs.Common.{◌≡◌, ◌++◌, ◌+◌, ◌∷◌, [], ℕ, List, ap, arith, map, string_bytes, sym, take, take_all, ◌∙◌}
use Rattle.std.proofs.lemmas.List.{map-append, take_more}
use Rattle.network_plan.specs.declared.plan.HostPlan.{HostPlan}
use Rattle.run_record.specs.EventLogView.{plan_name}
use Rattle.run_record.proofs.run_log.EventLog.new.Goals as goal

pub loop-plan-preserved : goal.loop-plan-preserved
loop-plan-preserved c =
    let plans = c.args.plans.now in
    let place = c.loop-plan.plan-index in
    let plan = c.plan-item.result in
    let name = c.in_ok-clone.field-0 in
    let more : take (place + 1) plans ≡ take place plans ++ plan ∷ [] = take_more plans place plan c.loop-plan-test.true
    ∙ ap (λ (one : HostPlan). take place plans ++ one ∷ []) (sym c.plan-item.is) in
    ap (map string_bytes) c.in_ok-push.ensures.items ∙ map-append string_bytes c.loop-plan.names.items (name ∷ [])
    ∙ ap (λ (l : List (List ℕ)). l ++ string_bytes name ∷ []) c.loop-plan.invariant
    ∙ ap (λ (l : List ℕ). map plan_name (take place plans) ++ l ∷ []) c.in_ok-clone.ensures.cases
    ∙ sym (ap (map plan_name) more ∙ map-append plan_name (take place plans) (plan ∷ []))

pub returns : goal.returns
returns c =
    let names = map plan_name c.args.plans.now in
    ap (λ (list : List (List ℕ)). record { names = list; outcomes = c.new.result.items; text = c.new-2.result.items })
    (c.loop-plan.invariant ∙ ap (map plan_name) (take_all c.loop-plan.plan-index c.args.plans.now (omega arith)))
    ∙ ap (λ (list : List ℕ). record { names = names; outcomes = list; text = c.new-2.result.items }) c.new.ensures.items
    ∙ ap (λ (list : List ℕ). record { names = names; outcomes = []; text = list }) c.new-2.ensures.items
