-- The mask of the kinds of steps that have something to do.
use Rattle.std.proofs.Common.{◌+◌, ◌∙◌, ℕ, ap}
use Rattle.adapter.specs.model_types.step.StepKind.TheVariants.{EepromTick, PhyTick, RxData, RxDone, TxPut, TxTake}
use Rattle.nic82540em.specs.Calls.{HasWork, TellsPossible, AnswersWork, bit_if}
use Rattle.played_adapter.proofs.EachKind.{for_each, for_kind}
use Rattle.nic82540em.specs.declared.watched.WatchedAdapter.{WatchedAdapter}

pub possible : (watched : WatchedAdapter) (n0 n1 n2 n3 n4 n5 : ℕ) → AnswersWork TxTake 1 n0 watched → AnswersWork TxPut 2 n1 watched
    → AnswersWork RxData 4 n2 watched → AnswersWork RxDone 8 n3 watched → AnswersWork EepromTick 16 n4 watched
    → AnswersWork PhyTick 32 n5 watched
    → TellsPossible (n0 + n1 + n2 + n3 + n4 + n5) watched
possible watched n0 n1 n2 n3 n4 n5 take put moves done eeprom phy = record {
  works = for_kind take.works put.works moves.works done.works eeprom.works phy.works;
  each = for_each (λ kind works. HasWork kind works watched) take.works put.works moves.works done.works eeprom.works phy.works
      take.has_work put.has_work moves.has_work done.has_work eeprom.has_work phy.has_work;
  mask_is = ap (λ (n : ℕ). n + n1 + n2 + n3 + n4 + n5) take.answer_is
      ∙ ap (λ (n : ℕ). bit_if take.works 1 + n + n2 + n3 + n4 + n5) put.answer_is
      ∙ ap (λ (n : ℕ). bit_if take.works 1 + bit_if put.works 2 + n + n3 + n4 + n5) moves.answer_is
      ∙ ap (λ (n : ℕ). bit_if take.works 1 + bit_if put.works 2 + bit_if moves.works 4 + n + n4 + n5) done.answer_is
      ∙ ap (λ (n : ℕ). bit_if take.works 1 + bit_if put.works 2 + bit_if moves.works 4 + bit_if done.works 8 + n + n5)
      eeprom.answer_is
      ∙ ap (λ (n : ℕ). bit_if take.works 1 + bit_if put.works 2 + bit_if moves.works 4 + bit_if done.works 8
      + bit_if eeprom.works 16 + n) phy.answer_is;
}
