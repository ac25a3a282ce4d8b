use Rattle.std.proofs.Common.{[], sym, subst}
use Rattle.adapter_model.specs.AdapterLaws.{HasRegisters-stepped}
use Rattle.adapter_model.specs.DataOutcomes.{outcome_of_put}
use Rattle.adapter_model.specs.Outcomes.{framed}
use Rattle.adapter_model.specs.State.{HasRegisters}
use Rattle.adapter_model.specs.View.{state_of}
use Rattle.adapter_model.specs.declared.step.StepKind.TheVariants.{TxPut}
use Rattle.adapter_model.proofs.StepStates.{put-answers, put-memory, put-only, put-size, put-state}
use Rattle.adapter_model.proofs.adapter.Adapter.put_frame.Goals as goal

pub invariant_of-self : goal.invariant_of-self
invariant_of-self c =
    let state = state_of c.self.inside in
    let put = c.put-answer in
    let path = put-state put.result state c.note_put.new.self put.new.engine c.args.memory.now put.new.memory c.note_put.ensures
    put.ensures.nothing put.ensures.untouched put.ensures.waits put.ensures.gone put.ensures.reported in
    record {
      registers = subst HasRegisters (sym path)
          (HasRegisters-stepped TxPut (framed (outcome_of_put put.result) state) [] state c.self.invariant.registers);
      receiver = c.self.invariant.receiver;
      image = c.self.invariant.image;
    }

pub returns-clause-answer : goal.returns-clause-answer
returns-clause-answer c =
    rw (c.outcome_of_put.ensures, sym c.self.view_is)
    (put-answers c.put-answer.result c.args.wire_free (state_of c.self.inside) c.put-answer.ensures.nothing c.put-answer.ensures.wire_full)

pub returns-clause-state : goal.returns-clause-state
returns-clause-state c =
    let put = c.put-answer in
    rw (c.outcome_of_put.ensures, sym c.self.view_is)
    (put-state put.result (state_of c.self.inside) c.note_put.new.self put.new.engine c.args.memory.now put.new.memory c.note_put.ensures
    put.ensures.nothing put.ensures.untouched put.ensures.waits put.ensures.gone put.ensures.reported)

pub returns-clause-memory : goal.returns-clause-memory
returns-clause-memory c =
    let put = c.put-answer in
    rw (c.outcome_of_put.ensures, sym c.self.view_is)
    (put-memory put.result (state_of c.self.inside) put.new.engine c.args.memory.now put.new.memory put.ensures.nothing
    put.ensures.untouched put.ensures.waits put.ensures.written)

pub returns-clause-only : goal.returns-clause-only
returns-clause-only c =
    let put = c.put-answer in
    rw (sym c.self.view_is)
    (put-only put.result c.self.inside.transmitter.buffer put.new.engine c.self.inside.transmitter c.args.memory.now put.new.memory
    put.ensures.nothing put.ensures.untouched put.ensures.one_byte)

pub returns-clause-size : goal.returns-clause-size
returns-clause-size c =
    let put = c.put-answer in
    put-size c.self.inside.transmitter.buffer c.args.memory.now put.new.memory
    (put-only put.result c.self.inside.transmitter.buffer put.new.engine c.self.inside.transmitter c.args.memory.now put.new.memory
    put.ensures.nothing put.ensures.untouched put.ensures.one_byte)

pub returns-clause-adapter : goal.returns-clause-adapter
returns-clause-adapter c = invariant_of-self c
