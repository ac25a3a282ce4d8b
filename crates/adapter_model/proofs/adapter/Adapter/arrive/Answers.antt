use Rattle.std.proofs.Common.{sym, ap, subst, ◌∙◌}
use Rattle.adapter_model.specs.AdapterLaws.{HasRegisters-arrived}
use Rattle.adapter_model.specs.Receiving.{IsFate, after_arrive}
use Rattle.adapter_model.specs.State.{AdapterState, HasRegisters}
use Rattle.adapter_model.specs.View.{state_of, with_file}
use Rattle.adapter_model.specs.declared.register_file.RegisterFile.{RegisterFile}
use Rattle.adapter_model.proofs.StepStates.{arrive-state, fate-is}
use Rattle.adapter_model.proofs.adapter.Adapter.arrive.Goals as goal

pub invariant_of-self : goal.invariant_of-self
invariant_of-self c =
    let state = state_of c.self.inside in
    let path = ap (λ (f : RegisterFile). record (with_file f state) { receiver = c.arrive-fate.new.engine })
    (c.note_arrival.ensures c.args.frame.now state)
    ∙ arrive-state c.arrive-fate.result c.args.frame.now state c.arrive-fate.new.engine c.arrive-fate.ensures.engine in
    record {
      registers = subst HasRegisters (sym path)
          (HasRegisters-arrived c.arrive-fate.result c.args.frame.now state c.self.invariant.registers);
      receiver = c.arrive-fate.ensures.after;
      image = c.self.invariant.image;
    }

pub returns-clause-fate : goal.returns-clause-fate
returns-clause-fate c =
    subst (λ (a : AdapterState). IsFate a c.args.frame.now c.arrive-fate.result) c.self.view_is
    (fate-is c.arrive-fate.result c.args.frame.now (state_of c.self.inside) c.arrive-fate.ensures.off c.arrive-fate.ensures.illegal
    c.arrive-fate.ensures.filtered (rw c.bytes-room.ensures.room at c.arrive-fate.ensures.missed)
    (rw c.bytes-room.ensures.room at c.arrive-fate.ensures.stored))

pub returns-clause-state : goal.returns-clause-state
returns-clause-state c =
    let state = state_of c.self.inside in
    ap (λ (f : RegisterFile). record (with_file f state) { receiver = c.arrive-fate.new.engine })
    (c.note_arrival.ensures c.args.frame.now state)
    ∙ arrive-state c.arrive-fate.result c.args.frame.now state c.arrive-fate.new.engine c.arrive-fate.ensures.engine
    ∙ ap (after_arrive c.arrive-fate.result c.args.frame.now) c.self.view_is

pub returns-clause-adapter : goal.returns-clause-adapter
returns-clause-adapter c = invariant_of-self c
