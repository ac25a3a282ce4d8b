-- The steps of an adapter: what each one changes, and which outcome it has.
use Rattle.std.specs.Prelude.{◌≡◌, ◌≢◌, ◌↔◌, ℕ, List, Bool, IsTrue, Option, Some, None, if◌then◌else◌}
use Rattle.eeprom.specs.Eerd as eeprom
use Rattle.mdic_phy.specs.declared.mdic.Ticked.{Ticked}
use Rattle.mdic_phy.specs.Mdic as mdi
use Rattle.registers.specs.Bits.{union}
use Rattle.adapter_model.specs.declared.step.StepKind.{StepKind}
use Rattle.adapter_model.specs.declared.step.StepKind.TheVariants.{TxTake, TxPut, RxData, RxDone, EepromTick, PhyTick}
use Rattle.adapter_model.specs.Outcomes.{FrameOutcome}
use Rattle.adapter_model.specs.declared.outcome.Outcome.TheVariants.{Ticked as DidTick, Nothing}
use Rattle.adapter_model.specs.Receiving.{DataAnswers, DataChangesOnly, DoneAnswers, DoneChangesOnly, after_data, after_done}
use Rattle.adapter_model.specs.Receiving.{memory_after_data_step, memory_after_done_step}
use Rattle.adapter_model.specs.Recording.{with_causes}
use Rattle.adapter_model.specs.State.{AdapterState}
use Rattle.adapter_model.specs.Transmitting.{PutAnswers, PutChangesOnly, TakeAnswers, after_put, after_take, memory_after_put}
use Rattle.registers.specs.Places.{alone, lsc, mdac}

-- The adapter after a tick of the EEPROM: a pending read ends, and EERD then contains the word (13.4.4 "EEPROM Read Register"). If no read
-- is pending, nothing changes.
abbrev pub after_eeprom_tick : AdapterState → AdapterState
after_eeprom_tick state = record state { eerd = eeprom.after_tick state.image state.eerd }

-- The causes that a tick of the PHY records: LSC, bit 2, if the link changed to up, and MDAC, bit 9, if a command with bit I set has ended
-- (13.4.17 "Interrupt Cause Read Register").
abbrev pub causes_told : Ticked → ℕ
causes_told ticked = union (if ticked.link_changed then alone lsc else 0) (if ticked.access_complete then alone mdac else 0)

-- The adapter after a tick of the PHY with this result. `None` stands for a tick that had nothing to do: the adapter doesn't change.
abbrev pub after_phy_told : Option Ticked → AdapterState → AdapterState
after_phy_told (Some ticked) state =
    with_causes (causes_told ticked)
    (record state { phy = mdi.phy_after_tick state.mdic state.phy; mdic = mdi.mdic_after_tick state.mdic state.phy })
after_phy_told None state = state

-- The adapter after a tick of the PHY. The tick decreases a running link countdown, then ends a pending command of MDIC (13.4.7 "MDI
-- Control Register"), and records the causes of `causes_told`. If no countdown is running and no command is pending, nothing changes.
abbrev pub after_phy_tick : AdapterState → AdapterState
after_phy_tick state = after_phy_told (mdi.told state.mdic state.phy) state

-- The outcome of a tick: `Ticked` if the tick had something to do, else `Nothing`.
abbrev pub ticked : Bool → FrameOutcome
ticked has_work = if has_work then DidTick else Nothing

-- Which outcome a step has, by the adapter and the memory before the step, and by whether the wire has room for a frame.
abbrev pub Answers : StepKind → Bool → List ℕ → AdapterState → FrameOutcome → Type 0
Answers TxTake wire_free memory state answer = TakeAnswers memory state answer
Answers TxPut wire_free memory state answer = PutAnswers wire_free state answer
Answers RxData wire_free memory state answer = DataAnswers memory state answer
Answers RxDone wire_free memory state answer = DoneAnswers state answer
Answers EepromTick wire_free memory state answer = answer ≡ ticked (eeprom.is_pending state.eerd)
Answers PhyTick wire_free memory state answer = answer ≡ ticked (mdi.has_work state.mdic state.phy)

-- `works` is true if and only if the outcome of a step of this kind isn't `Nothing`. This holds for each memory, and whether the wire has
-- room or not.
abbrev pub TellsWork : StepKind → Bool → AdapterState → Type 0
TellsWork kind works state =
    (wire_free : Bool) (memory : List ℕ) (answer : FrameOutcome) → Answers kind wire_free memory state answer
    → IsTrue works ↔ (answer ≢ Nothing)

-- The adapter after a step with this outcome, by the memory before the step.
abbrev pub after_step : StepKind → FrameOutcome → List ℕ → AdapterState → AdapterState
after_step TxTake answer memory state = after_take answer memory state
after_step TxPut answer memory state = after_put answer state
after_step RxData answer memory state = after_data answer state
after_step RxDone answer memory state = after_done answer state
after_step EepromTick answer memory state = after_eeprom_tick state
after_step PhyTick answer memory state = after_phy_tick state

-- The memory after a step with this outcome.
abbrev pub memory_after_step : StepKind → FrameOutcome → List ℕ → AdapterState → List ℕ
memory_after_step TxTake answer memory state = memory
memory_after_step TxPut answer memory state = memory_after_put answer memory state
memory_after_step RxData answer memory state = memory_after_data_step answer memory state
memory_after_step RxDone answer memory state = memory_after_done_step memory state
memory_after_step EepromTick answer memory state = memory
memory_after_step PhyTick answer memory state = memory

-- Memory differs at most in the bytes that a step of this kind may change.
abbrev pub ChangesAtMost : StepKind → AdapterState → List ℕ → List ℕ → Type 0
ChangesAtMost TxTake state memory memory' = memory' ≡ memory
ChangesAtMost TxPut state memory memory' = PutChangesOnly state memory memory'
ChangesAtMost RxData state memory memory' = DataChangesOnly state memory memory'
ChangesAtMost RxDone state memory memory' = DoneChangesOnly state memory memory'
ChangesAtMost EepromTick state memory memory' = memory' ≡ memory
ChangesAtMost PhyTick state memory memory' = memory' ≡ memory
