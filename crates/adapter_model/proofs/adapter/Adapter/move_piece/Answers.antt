use Rattle.std.proofs.Common.{sym}
use Rattle.adapter_model.specs.View.{state_of}
use Rattle.adapter_model.proofs.DataSteps.{answered-data, left_by-state, memory_by-data}
use Rattle.adapter_model.proofs.StepStates.{adapter-raised}
use Rattle.adapter_model.proofs.adapter.Adapter.move_piece.Goals as goal

pub returns-clause-answer : goal.returns-clause-answer
returns-clause-answer c =
    rw (c.outcome_of_data.ensures, sym c.self.view_is)
    (answered-data _ c.rx_data-answer.result c.args.memory.now (state_of c.self.inside)
    (rw (c.rctl.ensures, c.ring-ring.ensures) at c.rx_data-answer.ensures.nothing)
    (rw (c.rctl.ensures, c.ring-ring.ensures) at c.rx_data-answer.ensures.fault)
    (rw (c.rctl.ensures, c.ring-ring.ensures) at c.rx_data-answer.ensures.part)
    (rw (c.rctl.ensures, c.ring-ring.ensures) at c.rx_data-answer.ensures.moved))

pub returns-clause-state : goal.returns-clause-state
returns-clause-state c =
    rw (
      c.outcome_of_data.ensures,
      c.raise.ensures,
      c.causes_of_data.ensures,
      c.rx_data-answer.ensures.engine,
      c.rx_data-answer.ensures.ring,
      c.rctl.ensures,
      c.ring-ring.ensures,
      sym c.self.view_is,
    )
    (left_by-state _ c.rx_data-answer.result (state_of c.self.inside)
    (rw (c.rx_data-answer.ensures.ring, c.ring-ring.ensures) at c.rx_data-answer.ensures.half_offered))

pub returns-clause-memory : goal.returns-clause-memory
returns-clause-memory c =
    rw (c.outcome_of_data.ensures, c.rx_data-answer.ensures.memory, c.rctl.ensures, c.ring-ring.ensures, sym c.self.view_is)
    (memory_by-data _ c.rx_data-answer.result c.args.memory.now (state_of c.self.inside))

pub returns-clause-only : goal.returns-clause-only
returns-clause-only c = rw (sym c.self.view_is) (rw (c.rctl.ensures, c.ring-ring.ensures) at c.rx_data-answer.ensures.only)

pub invariant_of-self : goal.invariant_of-self
invariant_of-self c =
    adapter-raised (state_of c.self.inside) c.causes_of_data.result.0 c.raise.ensures c.self.invariant c.rx_data-answer.ensures.after

pub returns-clause-size : goal.returns-clause-size
returns-clause-size c = c.rx_data-answer.ensures.only.size

pub returns-clause-adapter : goal.returns-clause-adapter
returns-clause-adapter c = invariant_of-self c
