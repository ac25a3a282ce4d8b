use Rattle.std.proofs.Common.{sym}
use Rattle.adapter_model.specs.View.{state_of}
use Rattle.adapter_model.proofs.StepStates.{adapter-raised, take-answers, take-state}
use Rattle.adapter_model.proofs.adapter.Adapter.take_frame.Goals as goal

pub invariant_of-self : goal.invariant_of-self
invariant_of-self c =
    adapter-raised (state_of c.self.inside) c.causes_of_take.result.0 c.raise.ensures c.self.invariant c.self.invariant.receiver

pub returns-clause-answer : goal.returns-clause-answer
returns-clause-answer c =
    rw (c.outcome_of_take.ensures, sym c.self.view_is)
    (take-answers _ c.take-answer.result c.args.memory.now (state_of c.self.inside)
    (rw c.ring-ring.ensures at c.take-answer.ensures.nothing)
    (rw c.ring-ring.ensures at c.take-answer.ensures.fault)
    (rw c.ring-ring.ensures at c.take-answer.ensures.fetchable))

pub returns-clause-state : goal.returns-clause-state
returns-clause-state c =
    rw (c.outcome_of_take.ensures, sym c.self.view_is)
    (take-state _ c.take-answer.result c.args.memory.now (state_of c.self.inside) c.take-answer.new.ring c.take-answer.new.engine
    c.causes_of_take.result.0 c.raise.new.self c.causes_of_take.ensures c.raise.ensures
    (rw c.ring-ring.ensures at c.take-answer.ensures.untouched)
    (rw c.ring-ring.ensures at c.take-answer.ensures.stopped)
    (rw c.ring-ring.ensures at c.take-answer.ensures.took)
    c.take-answer.ensures.emptied)

pub returns-clause-adapter : goal.returns-clause-adapter
returns-clause-adapter c = invariant_of-self c
