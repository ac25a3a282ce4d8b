use Rattle.std.proofs.Common.{Option, ap, ◌∙◌}
use Rattle.adapter_model.specs.Registers.{answer, answer_of}
use Rattle.adapter_model.specs.State.{AdapterState}
use Rattle.adapter_model.specs.View.{state_of}
use Rattle.adapter_model.specs.declared.register.Register.{Register}
use Rattle.adapter_model.specs.declared.register.Register.TheVariants.{Pba, Status}
use Rattle.adapter_model.proofs.StepStates.{at-register, other-register}
use Rattle.adapter_model.proofs.adapter.Adapter.value.Goals as goal

pub returns-then-offset-eq-STATUS-clause-answer : goal.returns-then-offset-eq-STATUS-clause-answer
returns-then-offset-eq-STATUS-clause-answer c =
    c.bits.ensures tt ∙ c.status.ensures.status
    ∙ at-register (λ (r : Option Register). answer_of r c.args.self.now) c.args.offset Status tt c.if-offset-eq-STATUS.true

pub returns-then-offset-eq-PBA-clause-answer : goal.returns-then-offset-eq-PBA-clause-answer
returns-then-offset-eq-PBA-clause-answer c =
    c.read.ensures.shown ∙ ap (λ (s : AdapterState). answer Pba s) c.self.view_is
    ∙ at-register (λ (r : Option Register). answer_of r c.args.self.now) c.args.offset Pba tt c.if-offset-eq-PBA.true

pub returns-else-offset-eq-PBA-clause-answer : goal.returns-else-offset-eq-PBA-clause-answer
returns-else-offset-eq-PBA-clause-answer c =
    let found = c.at.ensures.register in
    c.value.ensures.answer (other-register c.args.offset Status c.at.result found c.if-offset-eq-STATUS.false)
    (other-register c.args.offset Pba c.at.result found c.if-offset-eq-PBA.false) (state_of c.self.inside)
    ∙ ap (answer_of c.at.result) c.self.view_is
    ∙ ap (λ (r : Option Register). answer_of r c.args.self.now) found
