-- A fact about each kind of steps, from the facts about the six kinds.
use Rattle.std.proofs.Common.{Bool}
use Rattle.adapter.specs.model_types.step.StepKind.{StepKind}
use Rattle.adapter.specs.model_types.step.StepKind.TheVariants.{EepromTick, PhyTick, RxData, RxDone, TxPut, TxTake}

-- the argument for this kind of steps
abbrev pub for_kind : (take put moves done eeprom phy : Bool) → StepKind → Bool
for_kind take put moves done eeprom phy TxTake = take
for_kind take put moves done eeprom phy TxPut = put
for_kind take put moves done eeprom phy RxData = moves
for_kind take put moves done eeprom phy RxDone = done
for_kind take put moves done eeprom phy EepromTick = eeprom
for_kind take put moves done eeprom phy PhyTick = phy

pub for_each : (Holds : StepKind → Bool → Type 0) (take put moves done eeprom phy : Bool) → Holds TxTake take → Holds TxPut put
    → Holds RxData moves → Holds RxDone done → Holds EepromTick eeprom → Holds PhyTick phy → (kind : StepKind)
    → Holds kind (for_kind take put moves done eeprom phy kind)
for_each Holds take put moves done eeprom phy has0 has1 has2 has3 has4 has5 TxTake = has0
for_each Holds take put moves done eeprom phy has0 has1 has2 has3 has4 has5 TxPut = has1
for_each Holds take put moves done eeprom phy has0 has1 has2 has3 has4 has5 RxData = has2
for_each Holds take put moves done eeprom phy has0 has1 has2 has3 has4 has5 RxDone = has3
for_each Holds take put moves done eeprom phy has0 has1 has2 has3 has4 has5 EepromTick = has4
for_each Holds take put moves done eeprom phy has0 has1 has2 has3 has4 has5 PhyTick = has5
