use Rattle.std.proofs.Common.{subst, sym}
use Rattle.adapter.specs.model_types.outcome.Outcome.{Outcome}
use Rattle.played_adapter.specs.Order.{Tells}
use Rattle.played_adapter.specs.Playing.{Steps}
use Rattle.played_adapter.specs.declared.player.PlayedAdapter.{PlayedAdapter}
use Rattle.program_plants.proofs.OnePlay.{one_told, outcome_is_one, step_one}
use Rattle.program_plants.proofs.played_calls.step.Goals as goal

pub returns : goal.returns
returns g c =
    let heard = g.O.Observer.heard in
    let kind = c.args.kind in
    let a = c.args.one.now in
    let another = c.args.another.now in
    let end = c.step-2.new.observer in
    let again = subst (λ (s : PlayedAdapter). Tells heard another end (Steps kind c.step-2.result s c.step-2.new.self)) (sym c.requires)
    c.step-2.ensures in
    let outcomes = outcome_is_one kind a c.step.new.self c.step-2.new.self c.step.result c.step-2.result c.step.ensures.told again.told
    c.step.ensures.holds again.holds in
    let same = one_told heard (Steps kind c.step.result) (step_one kind c.step.result) a c.step.new.self c.step-2.new.self
    c.args.observer.now c.step.new.observer another end c.step.ensures
    (subst (λ (outcome : Outcome (Unit {0})). Tells heard another end (Steps kind outcome a c.step-2.new.self)) (sym outcomes) again) in
    record { outcome = outcomes; state = same.0; told = same.1 }
