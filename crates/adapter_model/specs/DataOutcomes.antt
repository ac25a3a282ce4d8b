-- The outcomes of steps, and the causes and counts that the steps record, by the answers of the engines and the PHY.
use Rattle.std.specs.Prelude.{ℕ, Option, Some, None, if◌then◌else◌}
use Rattle.mdic_phy.specs.declared.mdic.Ticked.{Ticked}
use Rattle.registers.specs.Bits.{union}
use Rattle.registers.specs.Places.{alone, rxdmt0, txdw, txqe}
use Rattle.rx_engine.specs.declared.data.Data.{Data}
use Rattle.rx_engine.specs.declared.data.Data.TheVariants as answers
use Rattle.rx_engine.specs.declared.done.Done.{Done}
use Rattle.rx_engine.specs.declared.done.Done.TheVariants as dones
use Rattle.tx_engine.specs.declared.answers.Take.{Take}
use Rattle.tx_engine.specs.declared.answers.Take.TheVariants as takes
use Rattle.tx_engine.specs.declared.answers.Put.{Put}
use Rattle.tx_engine.specs.declared.answers.Put.TheVariants as puts
use Rattle.adapter_model.specs.Recording.{one_more}
use Rattle.adapter_model.specs.Steps.{causes_told}
use Rattle.adapter_model.specs.declared.outcome.Outcome.{Outcome}
use Rattle.adapter_model.specs.declared.outcome.Outcome.TheVariants.{Took, Put as DidPut, WireFull, Part, Moved}
use Rattle.adapter_model.specs.declared.outcome.Outcome.TheVariants.{Done as DidFinish, Ticked as DidTick, Nothing, Fault}
use Rattle.adapter_model.specs.declared.register_file.RegisterFile.{RegisterFile}

-- The outcome of a data step with this answer.
abbrev pub outcome_of_data : {F : Type 0} → Data → Outcome F
outcome_of_data answers.Nothing = Nothing
outcome_of_data (answers.Part half) = Part
outcome_of_data (answers.Moved half) = Moved
outcome_of_data answers.Fault = Fault

-- The causes that a data step with this answer records: RXDMT0, bit 4, if a piece was moved, and exactly half of the ring's descriptors are
-- now offered.
abbrev pub causes_of_data : Data → ℕ
causes_of_data answers.Nothing = 0
causes_of_data (answers.Part half) = if half then alone rxdmt0 else 0
causes_of_data (answers.Moved half) = if half then alone rxdmt0 else 0
causes_of_data answers.Fault = 0

-- The outcome of a done step with this answer.
abbrev pub outcome_of_done : {F : Type 0} → Done → Outcome F
outcome_of_done dones.Nothing = Nothing
outcome_of_done dones.Done = DidFinish

-- The outcome of a step `TxTake` with this answer.
abbrev pub outcome_of_take : {F : Type 0} → Take → Outcome F
outcome_of_take takes.Nothing = Nothing
outcome_of_take (takes.Took emptied) = Took
outcome_of_take takes.Fault = Fault

-- The causes that a step `TxTake` with this answer records: TXQE, bit 1, if a frame was taken, and TDH now equals TDT.
abbrev pub causes_of_take : Take → ℕ
causes_of_take takes.Nothing = 0
causes_of_take (takes.Took emptied) = if emptied then alone txqe else 0
causes_of_take takes.Fault = 0

-- The outcome of a tick of the PHY with this result: `Nothing` for `None`, else `Ticked`.
abbrev pub outcome_of_tick : {F : Type 0} → Option Ticked → Outcome F
outcome_of_tick (Some ticked) = DidTick
outcome_of_tick None = Nothing

-- The causes that a tick of the PHY with this result records: no cause for `None`, else those of `causes_told`.
abbrev pub causes_of_tick : Option Ticked → ℕ
causes_of_tick (Some ticked) = causes_told ticked
causes_of_tick None = 0

-- The outcome of a step `TxPut` with this answer.
abbrev pub outcome_of_put : Put → Outcome (Unit {0})
outcome_of_put puts.Nothing = Nothing
outcome_of_put puts.WireFull = WireFull
outcome_of_put (puts.Put reported) = DidPut tt

-- The register file after a step `TxPut` with this answer. If a frame was put, GPTC counts it, and TXDW, bit 0, is recorded if the frame's
-- descriptor asks for a report. Otherwise the registers don't change.
abbrev pub file_after_put : Put → RegisterFile → RegisterFile
file_after_put puts.Nothing file = file
file_after_put puts.WireFull file = file
file_after_put (puts.Put reported) file = record file {
  causes = record file.causes { recorded = union file.causes.recorded (if reported then alone txdw else 0) };
  gptc = one_more file.gptc;
}
