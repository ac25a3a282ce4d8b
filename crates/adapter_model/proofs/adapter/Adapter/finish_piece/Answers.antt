use Rattle.std.proofs.Common.{ℕ, [], sym, subst}
use Rattle.adapter_model.specs.AdapterLaws.{HasRegisters-stepped}
use Rattle.adapter_model.specs.DataOutcomes.{outcome_of_done}
use Rattle.adapter_model.specs.Outcomes.{framed}
use Rattle.adapter_model.specs.State.{HasRegisters}
use Rattle.adapter_model.specs.View.{state_of}
use Rattle.adapter_model.specs.declared.step.StepKind.TheVariants.{RxDone}
use Rattle.adapter_model.proofs.StepStates.{done-answers, done-only, done-size, done-state}
use Rattle.adapter_model.proofs.adapter.Adapter.finish_piece.Goals as goal

pub invariant_of-self : goal.invariant_of-self
invariant_of-self c =
    let state = state_of c.self.inside in
    let path = done-state ℕ c.rx_done-answer.result state c.is_ending-ends.result c.note_finished.new.self c.rx_done-answer.new.engine
    c.is_ending-ends.ensures c.note_finished.ensures c.rx_done-answer.ensures.engine c.rx_done-answer.ensures.nothing in
    record {
      registers = subst HasRegisters (sym path)
          (HasRegisters-stepped RxDone (framed {F = ℕ} (outcome_of_done {F = ℕ} c.rx_done-answer.result) state) [] state
          c.self.invariant.registers);
      receiver = c.rx_done-answer.ensures.after;
      image = c.self.invariant.image;
    }

pub returns-clause-answer : goal.returns-clause-answer
returns-clause-answer c =
    rw (c.outcome_of_done.ensures, sym c.self.view_is)
    (done-answers _ c.rx_done-answer.result (state_of c.self.inside) c.rx_done-answer.ensures.nothing)

pub returns-clause-state : goal.returns-clause-state
returns-clause-state c =
    rw (c.outcome_of_done.ensures, sym c.self.view_is)
    (done-state _ c.rx_done-answer.result (state_of c.self.inside) c.is_ending-ends.result c.note_finished.new.self
    c.rx_done-answer.new.engine c.is_ending-ends.ensures c.note_finished.ensures c.rx_done-answer.ensures.engine
    c.rx_done-answer.ensures.nothing)

pub returns-clause-memory : goal.returns-clause-memory
returns-clause-memory c = rw (sym c.self.view_is) c.rx_done-answer.ensures.memory

pub returns-clause-only : goal.returns-clause-only
returns-clause-only c =
    rw (sym c.self.view_is)
    (done-only c.self.inside.receiver.work _ _ c.rx_done-answer.ensures.memory c.rx_done-answer.ensures.only)

pub returns-clause-size : goal.returns-clause-size
returns-clause-size c =
    done-size c.self.inside.receiver.work _ _
    (done-only c.self.inside.receiver.work _ _ c.rx_done-answer.ensures.memory c.rx_done-answer.ensures.only)

pub returns-clause-adapter : goal.returns-clause-adapter
returns-clause-adapter c = invariant_of-self c
