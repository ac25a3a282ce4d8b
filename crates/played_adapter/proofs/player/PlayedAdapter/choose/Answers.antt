use Rattle.std.proofs.Common.{Bool, ◌≡◌, ◌++◌, ◌∷◌, ◌∙◌, [], ap, not, rules, sym, true}
use Rattle.step_schedules.specs.declared.deviation.Action.{Action}
use Rattle.step_schedules.specs.declared.deviation.Action.TheVariants.{Arrive}
use Rattle.played_adapter.specs.Choices.{step_action}
use Rattle.played_adapter.specs.Playing.{noted}
use Rattle.played_adapter.specs.Told.{Noted}
use Rattle.played_adapter.proofs.player.PlayedAdapter.choose.Goals as goal

pub returns-then-did : goal.returns-then-did
returns-then-did g c =
    let tells = c.step-outcome.ensures in
    rw c.in-Step.is (record {
      told = tells.told ++ Noted c.step_action.result ∷ [];
      holds = record {
        outcome = c.step-outcome.result;
        first = tells.told;
        steps = tells.holds;
        told_is = ap (λ (action : Action). tells.told ++ noted true action) c.step_action.ensures
            ∙ ap (λ (yes : Bool). tells.told ++ noted yes (step_action c.in-Step.kind)) (sym c.if-did.true ∙ c.did.ensures);
      };
      hears = g.met.O.Observer.composes.joins c.args.observer.now c.step-outcome.new.observer c.noted.new.self _ _ tells.hears
          c.noted.ensures;
    })

pub returns-then-is_offered : goal.returns-then-is_offered
returns-then-is_offered g c =
    let tells = c.deliver_next.ensures in
    let some : not c.is_empty-is_offered.result ≡ true = search rules in
    rw c.in-Arrival.is (record {
      told = tells.told ++ Noted Arrive ∷ [];
      holds = record {
        first = tells.told;
        arrives = tells.holds;
        told_is = ap (λ (yes : Bool). tells.told ++ noted yes Arrive) (sym some ∙ ap not c.is_empty-is_offered.ensures);
      };
      hears = g.met.O.Observer.composes.joins c.args.observer.now c.deliver_next.new.observer c.noted-then-is_offered.new.self _ _
          tells.hears c.noted-then-is_offered.ensures;
    })
