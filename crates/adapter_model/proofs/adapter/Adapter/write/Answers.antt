use Rattle.std.proofs.Common.{ℕ, Bool, Option, ◌≡◌, sym, ap, subst, ◌∙◌, false, if◌then◌else◌}
use Rattle.std.proofs.Common.{Some}
use Rattle.adapter_model.specs.Registers.{after_reset, by_row, is_reset, left_by_write, write_of}
use Rattle.adapter_model.specs.State.{HasRegisters}
use Rattle.adapter_model.specs.Table.{row_of}
use Rattle.adapter_model.specs.View.{state_of, with_file}
use Rattle.adapter_model.specs.declared.register.Register.{Register}
use Rattle.adapter_model.specs.declared.register.Register.TheVariants.{Ctrl, Pba}
use Rattle.adapter_model.specs.declared.register_file.RegisterFile.{RegisterFile}
use Rattle.adapter_model.proofs.StepStates.{at-register, left-write, other-register, registers-written}
use Rattle.adapter_model.proofs.adapter.Adapter.write.Goals.{After-write-else-offset-eq-PBA}
use Rattle.adapter_model.proofs.adapter.Adapter.write.Goals.{else-offset-eq-CTRL-via-then-offset-eq-CTRL+else-asks_for_reset}
use Rattle.adapter_model.proofs.adapter.Adapter.write.Goals.{else-offset-eq-CTRL-via-else-offset-eq-CTRL}
use Rattle.adapter_model.proofs.adapter.Adapter.write.Goals as goal

-- A write of the file's registers is no reset.
calm : (c : After-write-else-offset-eq-PBA) → c.at.result ≡ Some Ctrl → is_reset Ctrl c.args.value ≡ false
calm c found =
    elim c.else-offset-eq-CTRL.branch [
      | else-offset-eq-CTRL-via-then-offset-eq-CTRL+else-asks_for_reset w ↦ sym w.asks_for_reset.ensures ∙ w.if-asks_for_reset.false
      | else-offset-eq-CTRL-via-else-offset-eq-CTRL w ↦
          absurd (other-register c.args.offset Ctrl c.at.result c.at.ensures.register w.if-offset-eq-CTRL.false found)
    ]

written : (c : After-write-else-offset-eq-PBA)
    → with_file c.write-else-offset-eq-PBA.new.self (state_of c.self.inside)
    ≡ left_by_write c.at.result c.args.value (state_of c.self.inside)
written c =
    let state = state_of c.self.inside in
    ap (λ (f : RegisterFile). with_file f state) (c.write-else-offset-eq-PBA.ensures state)
    ∙ left-write c.at.result c.args.value state (calm c)
    (other-register c.args.offset Pba c.at.result c.at.ensures.register c.if-offset-eq-PBA.false)

pub invariant_of-self-else-offset-eq-PBA : goal.invariant_of-self-else-offset-eq-PBA
invariant_of-self-else-offset-eq-PBA c = record {
  registers = subst HasRegisters (sym (written c))
      (registers-written c.at.result c.args.value (state_of c.self.inside) c.self.invariant.registers);
  receiver = c.self.invariant.receiver;
  image = c.self.invariant.image;
}

pub returns-else-offset-eq-PBA-clause-state : goal.returns-else-offset-eq-PBA-clause-state
returns-else-offset-eq-PBA-clause-state c =
    written c ∙ ap (left_by_write c.at.result c.args.value) c.self.view_is
    ∙ ap (λ (r : Option Register). left_by_write r c.args.value c.args.self.now) c.at.ensures.register

pub returns-else-offset-eq-PBA-clause-adapter : goal.returns-else-offset-eq-PBA-clause-adapter
returns-else-offset-eq-PBA-clause-adapter c = invariant_of-self-else-offset-eq-PBA c

pub returns-then-asks_for_reset-clause-state : goal.returns-then-asks_for_reset-clause-state
returns-then-asks_for_reset-clause-state c =
    let a = c.args.self.now in
    c.reset.ensures.state
    ∙ ap (λ (b : Bool). if b then after_reset a else by_row (row_of Ctrl).kept Ctrl c.args.value a)
    (sym (sym c.asks_for_reset.ensures ∙ c.if-asks_for_reset.true))
    ∙ at-register (λ (r : Option Register). left_by_write r c.args.value a) c.args.offset Ctrl tt c.if-offset-eq-CTRL.true

pub returns-then-offset-eq-PBA-clause-state : goal.returns-then-offset-eq-PBA-clause-state
returns-then-offset-eq-PBA-clause-state c =
    let state = state_of c.self.inside in
    ap (λ (n : ℕ). record state { receive_kilobytes = n }) c.write.ensures
    ∙ ap (write_of Pba c.args.value) c.self.view_is
    ∙ at-register (λ (r : Option Register). left_by_write r c.args.value c.args.self.now) c.args.offset Pba tt c.if-offset-eq-PBA.true
