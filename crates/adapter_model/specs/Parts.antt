-- The operations on EERD, MDIC and the PHY among the events at an adapter. With these operations, the laws of `registers` over all lists of
-- writes and ticks apply to the adapter's registers.
use Rattle.std.specs.Prelude.{◌≡◌, ℕ, false, true, List, [], ◌∷◌, ◌++◌, Option, Some, if◌then◌else◌}
use Rattle.std.specs.List.{list_any}
use Rattle.eeprom.specs.EerdHistory as eerd
use Rattle.mdic_phy.specs.declared.phy.Link.{Link}
use Rattle.mdic_phy.specs.MdicHistory.{MdicEvent, mdic_reads, phy_of}
use Rattle.mdic_phy.specs.MdicHistory as mdic
use Rattle.mdic_phy.specs.Phy.{new_phy}
use Rattle.adapter_model.specs.declared.register.Register.{Register}
use Rattle.adapter_model.specs.declared.register.Register.TheVariants.{Ctrl, Eerd, Mdic}
use Rattle.adapter_model.specs.declared.step.StepKind.TheVariants.{EepromTick, PhyTick}
use Rattle.adapter_model.specs.History.{AdapterEvent, Read, Write, Step, Arrive, adapter_after_all, is_reset_event, reads}
use Rattle.adapter_model.specs.Registers.{is_reset, new_adapter}
use Rattle.adapter_model.specs.Table.{register_at, row_of}

-- The write of this value, as a list of at most one operation on EERD: empty if the written register isn't EERD.
abbrev pub eerd_written : Option Register → ℕ → List eerd.Operation
eerd_written (Some Eerd) value = eerd.Write value ∷ []
eerd_written found value = []

-- The operation on EERD in an event, as a list of at most one operation. A reset is no operation here.
abbrev pub eerd_operation : AdapterEvent → List eerd.Operation
eerd_operation (Read offset) = []
eerd_operation (Write offset value) = eerd_written (register_at offset) value
eerd_operation (Step EepromTick answer memory) = eerd.Tick ∷ []
eerd_operation (Step kind answer memory) = []
eerd_operation (Arrive fate frame) = []

-- The operations on EERD in a list of events, in order. Resets are no operations here.
abbrev pub eerd_operations : List AdapterEvent → List eerd.Operation
eerd_operations [] = []
eerd_operations (event ∷ later) = eerd_operation event ++ eerd_operations later

-- The write of this value, as a list of at most one operation on MDIC. A reset of the adapter counts as a write of 0, which contains no
-- command. A write of any other register is no operation.
abbrev pub mdic_written : Option Register → ℕ → List MdicEvent
mdic_written (Some Mdic) value = mdic.Write value ∷ []
mdic_written (Some Ctrl) value = if is_reset Ctrl value then mdic.Write 0 ∷ [] else []
mdic_written found value = []

-- The operation on MDIC in an event, as a list of at most one operation. A tick of the PHY is an operation on MDIC.
abbrev pub mdic_event : AdapterEvent → List MdicEvent
mdic_event (Read offset) = []
mdic_event (Write offset value) = mdic_written (register_at offset) value
mdic_event (Step PhyTick answer memory) = mdic.Tick ∷ []
mdic_event (Step kind answer memory) = []
mdic_event (Arrive fate frame) = []

-- The operations on MDIC in a list of events, in order.
abbrev pub mdic_events : List AdapterEvent → List MdicEvent
mdic_events [] = []
mdic_events (event ∷ later) = mdic_event event ++ mdic_events later

-- No event of the list is a reset.
abbrev pub NoReset : List AdapterEvent → Type 0
NoReset events = list_any is_reset_event events ≡ false

-- The events since power-on or the last reset determine the value of EERD, by the law of its history. The events since power-on determine
-- the value of MDIC and the PHY's state, by the laws of their histories.
pub record PartsByHistory (words : List ℕ) (link : Link) : Type 0 where
  -- If no event is a reset, EERD reads the value after all operations on EERD.
  pub eerd_since_power_on : (all : List AdapterEvent) → NoReset all
      → reads words link all (row_of Eerd).offset ≡ eerd.reads_after words (eerd_operations all)
  -- If no event after a reset is a reset, EERD reads the value after the operations on EERD since this reset.
  pub eerd_since_reset : (before : List AdapterEvent) (event : AdapterEvent) (after : List AdapterEvent) → is_reset_event event ≡ true
      → NoReset after
      → reads words link (before ++ event ∷ after) (row_of Eerd).offset ≡ eerd.reads_after words (eerd_operations after)
  -- MDIC reads the value after all operations on MDIC.
  pub mdic : (all : List AdapterEvent) → reads words link all (row_of Mdic).offset ≡ mdic_reads (new_phy link) (mdic_events all)
  -- The PHY's state is its state after all operations on MDIC.
  pub phy : (all : List AdapterEvent) → (adapter_after_all all (new_adapter words link)).phy ≡ phy_of (new_phy link) (mdic_events all)

-- `PartsByHistory` holds for each image of the EEPROM and each setting of the link.
abbrev pub PartsHaveTheirLaws : Type 0
PartsHaveTheirLaws = (words : List ℕ) (link : Link) → PartsByHistory words link
