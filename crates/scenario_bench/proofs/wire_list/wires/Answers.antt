use Rattle.std.proofs.Common.{◌≡◌, ◌∙◌, Bool, List, ℕ, ap, arith, bytes_eq, length, string_bytes, sym}
use Rattle.std.specs.Borrow.{Bor}
use Rattle.std.specs.List.{list_any}
use Rattle.std.proofs.lemmas.List.{length-map}
use Rattle.run_record.specs.Puts.{names_in}
use Rattle.scenario_bench.proofs.WireLists.{wire_more, wire_there, wires_all}
use Rattle.scenario_bench.proofs.wire_list.wires.Goals as goal

tested : (wires slice : List (Bor (List ℕ))) (wire name : List ℕ) (result answer : Bool) → wire ≡ name → slice ≡ wires
    → result ≡ list_any (λ (one : Bor (List ℕ)). bytes_eq one.now wire) slice → result ≡ answer
    → list_any (λ (one : Bor (List ℕ)). bytes_eq one.now name) wires ≡ answer
tested wires slice wire name result answer named is tests answers =
    ap (λ (w : List ℕ). list_any (λ (one : Bor (List ℕ)). bytes_eq one.now w) wires) (sym named)
    ∙ ap (list_any (λ (one : Bor (List ℕ)). bytes_eq one.now wire)) (sym is) ∙ sym tests ∙ answers

pub loop-plan-preserved-then-contains : goal.loop-plan-preserved-then-contains
loop-plan-preserved-then-contains c =
    wire_there c.args.plans.now c.loop-plan.plan-index c.plan-item.result c.plan-item.result c.loop-plan.wires.items (omega arith)
    c.plan-item.is c.loop-plan.invariant
    (tested c.loop-plan.wires.items c.as_slice.result.now c.as_str-wire.result.now (string_bytes c.plan-item.result.wire)
    c.contains.result _ c.as_str-wire.ensures.value c.as_slice.ensures.value c.contains.ensures.value c.if-contains.true)

pub loop-plan-preserved : goal.loop-plan-preserved
loop-plan-preserved c =
    wire_more c.args.plans.now c.loop-plan.plan-index c.plan-item.result c.plan-item.result c.loop-plan.wires.items c.push.new.self.items
    c.as_str-wire.result (omega arith) c.plan-item.is c.loop-plan.invariant
    (tested c.loop-plan.wires.items c.as_slice.result.now c.as_str-wire.result.now (string_bytes c.plan-item.result.wire)
    c.contains.result _ c.as_str-wire.ensures.value c.as_slice.ensures.value c.contains.ensures.value c.if-contains.false)
    c.as_str-wire.ensures.value c.in_ok-push.ensures.items

pub loop-plan-init : goal.loop-plan-init
loop-plan-init c = ap names_in c.new-wires.ensures.items

pub returns-clause-names : goal.returns-clause-names
returns-clause-names c =
    wires_all c.args.plans.now c.loop-plan.plan-index c.loop-plan.wires.items c.loop-plan-test.false c.loop-plan.invariant

pub returns-clause-count : goal.returns-clause-count
returns-clause-count c = sym (length-map c.loop-plan.wires.items (λ (name : Bor (List ℕ)). name.now))
    ∙ ap length
    (wires_all c.args.plans.now c.loop-plan.plan-index c.loop-plan.wires.items c.loop-plan-test.false c.loop-plan.invariant)
