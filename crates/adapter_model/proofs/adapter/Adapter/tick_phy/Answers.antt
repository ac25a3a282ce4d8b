use Rattle.std.proofs.Common.{sym, ◌∙◌, ap}
use Rattle.adapter_model.specs.Steps.{after_phy_tick}
use Rattle.adapter_model.specs.View.{state_of}
use Rattle.adapter_model.proofs.StepStates.{adapter-raised, tick-answers, tick-nothing, tick-state}
use Rattle.adapter_model.proofs.adapter.Adapter.tick_phy.Goals as goal

pub invariant_of-self : goal.invariant_of-self
invariant_of-self c =
    adapter-raised (state_of c.self.inside) c.causes_of_tick.result.0 c.raise.ensures c.self.invariant c.self.invariant.receiver

pub returns-clause-state : goal.returns-clause-state
returns-clause-state c =
    tick-state c.tick-ticked.result c.tick-ticked.new.phy c.tick-ticked.new.self c.causes_of_tick.result.0 c.raise.new.self
    (state_of c.self.inside) c.causes_of_tick.ensures c.raise.ensures c.tick-ticked.ensures.phy c.tick-ticked.ensures.mdic
    c.tick-ticked.ensures.mdic_stays c.tick-ticked.ensures.phy_stays c.tick-ticked.ensures.told
    ∙ ap after_phy_tick c.self.view_is

pub returns-clause-answer : goal.returns-clause-answer
returns-clause-answer c =
    rw (c.outcome_of_tick.ensures, sym c.self.view_is)
    (tick-answers _ c.tick-ticked.result (state_of c.self.inside) c.tick-ticked.ensures.told)

pub returns-clause-nothing : goal.returns-clause-nothing
returns-clause-nothing c = λ nothing.
    returns-clause-state c
    ∙ rw (sym c.self.view_is) (tick-nothing _ c.tick-ticked.result (state_of c.self.inside) c.tick-ticked.ensures.told
    (sym c.outcome_of_tick.ensures ∙ nothing))

pub returns-clause-adapter : goal.returns-clause-adapter
returns-clause-adapter c = invariant_of-self c
