use Rattle.std.proofs.Common.{Option, sym, ap, subst, ◌∙◌}
use Rattle.adapter_model.specs.Registers.{answer, answer_of, left_by_read}
use Rattle.adapter_model.specs.State.{AdapterState, HasRegisters}
use Rattle.adapter_model.specs.View.{state_of, with_file}
use Rattle.adapter_model.specs.declared.register.Register.{Register}
use Rattle.adapter_model.specs.declared.register.Register.TheVariants.{Pba, Status}
use Rattle.adapter_model.specs.declared.register_file.RegisterFile.{RegisterFile}
use Rattle.adapter_model.proofs.StepStates.{at-register, left-read, other-register, registers-read}
use Rattle.adapter_model.proofs.adapter.Adapter.read.Goals as goal

-- A register of the file, or no register.

pub invariant_of-self : goal.invariant_of-self
invariant_of-self c =
    let state = state_of c.self.inside in
    let path = ap (λ (f : RegisterFile). with_file f state) (c.read-else-offset-eq-PBA.ensures.file state) ∙ left-read c.at.result state in
    record {
      registers = subst HasRegisters (sym path) (registers-read c.at.result state c.self.invariant.registers);
      receiver = c.self.invariant.receiver;
      image = c.self.invariant.image;
    }

pub returns-else-offset-eq-PBA-clause-answer : goal.returns-else-offset-eq-PBA-clause-answer
returns-else-offset-eq-PBA-clause-answer c =
    let found = c.at.ensures.register in
    c.read-else-offset-eq-PBA.ensures.answer (other-register c.args.offset Status c.at.result found c.if-offset-eq-STATUS.false)
    (other-register c.args.offset Pba c.at.result found c.if-offset-eq-PBA.false) (state_of c.self.inside)
    ∙ ap (answer_of c.at.result) c.self.view_is
    ∙ ap (λ (r : Option Register). answer_of r c.args.self.now) found

pub returns-else-offset-eq-PBA-clause-state : goal.returns-else-offset-eq-PBA-clause-state
returns-else-offset-eq-PBA-clause-state c =
    let state = state_of c.self.inside in
    ap (λ (f : RegisterFile). with_file f state) (c.read-else-offset-eq-PBA.ensures.file state)
    ∙ left-read c.at.result state
    ∙ ap (left_by_read c.at.result) c.self.view_is
    ∙ ap (λ (r : Option Register). left_by_read r c.args.self.now) c.at.ensures.register

pub returns-else-offset-eq-PBA-clause-adapter : goal.returns-else-offset-eq-PBA-clause-adapter
returns-else-offset-eq-PBA-clause-adapter c = invariant_of-self c

-- STATUS and PBA.

pub returns-then-offset-eq-STATUS-clause-answer : goal.returns-then-offset-eq-STATUS-clause-answer
returns-then-offset-eq-STATUS-clause-answer c =
    c.bits.ensures tt ∙ c.status.ensures.status
    ∙ at-register (λ (r : Option Register). answer_of r c.args.self.now) c.args.offset Status tt c.if-offset-eq-STATUS.true

pub returns-then-offset-eq-STATUS-clause-state : goal.returns-then-offset-eq-STATUS-clause-state
returns-then-offset-eq-STATUS-clause-state c =
    at-register (λ (r : Option Register). left_by_read r c.args.self.now) c.args.offset Status tt c.if-offset-eq-STATUS.true

pub returns-then-offset-eq-PBA-clause-answer : goal.returns-then-offset-eq-PBA-clause-answer
returns-then-offset-eq-PBA-clause-answer c =
    c.read.ensures.shown ∙ ap (λ (s : AdapterState). answer Pba s) c.self.view_is
    ∙ at-register (λ (r : Option Register). answer_of r c.args.self.now) c.args.offset Pba tt c.if-offset-eq-PBA.true

pub returns-then-offset-eq-PBA-clause-state : goal.returns-then-offset-eq-PBA-clause-state
returns-then-offset-eq-PBA-clause-state c =
    at-register (λ (r : Option Register). left_by_read r c.args.self.now) c.args.offset Pba tt c.if-offset-eq-PBA.true
