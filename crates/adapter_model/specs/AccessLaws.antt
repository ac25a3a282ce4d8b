-- The effect of accesses and resets on what registers read, by the table: the laws that `offsets_by_table`, `accesses_by_table` and
-- `resets_by_table` state.
use Rattle.std.specs.Prelude.{◌≡◌, ◌≢◌, ◌%◌, ◌<◌, ◌&&◌, ℕ, true, false, List, Some, bit_and, if◌then◌else◌}
use Rattle.mdic_phy.specs.declared.phy.Link.{Link}
use Rattle.mdic_phy.specs.Phy.{link_is_up}
use Rattle.registers.specs.Bits.{is_set, union, difference}
use Rattle.registers.specs.Kept.{causes_of, status_of_link_up}
use Rattle.adapter_model.specs.declared.register.Register.{Register}
use Rattle.adapter_model.specs.declared.register.Register.TheVariants.{Ctrl, Status, Icr, Ics, Ims, Imc, Pba}
use Rattle.adapter_model.specs.Registers.{answer, answer_at, after_read, after_write, is_reset, new_adapter, read_of, write_of}
use Rattle.adapter_model.specs.State.{AdapterState, HasRegisters}
use Rattle.adapter_model.specs.Table.{IsInTable, StandsAt, register_at, row_of}
use Rattle.registers.specs.Places.{ctrl_slu}

-- Each register of the table is at its offset, and no other register is at this offset. Offsets are multiples of 4 below 0x5800.
pub record OffsetsByTable : Type 0 where
  -- The register at the offset of each register is this register.
  pub there : (register : Register) → IsInTable register → register_at (row_of register).offset ≡ Some register
  -- A register that is found at an offset exists, and is at this offset.
  pub only : (offset : ℕ) (register : Register) → register_at offset ≡ Some register → StandsAt offset register
  -- Each offset is a multiple of 4.
  pub multiple_of_four : (register : Register) → (row_of register).offset % 4 ≡ 0
  -- Each offset is below 0x5800.
  pub below : (register : Register) → IsInTable register → (row_of register).offset < 0x5800

-- An access at an offset is an access of the register at this offset.
pub record AccessesByRegister (offset : ℕ) (register : Register) (state : AdapterState) : Type 0 where
  -- A read at the offset returns what a read of the register returns.
  pub answered : answer_at offset state ≡ answer register state
  -- A read at the offset has the effect of a read of the register.
  pub read : after_read offset state ≡ read_of register state
  -- A write at the offset has the effect of a write of the register.
  pub written : (value : ℕ) → after_write offset value state ≡ write_of register value state

-- A read at the offset returns 0, and neither a read nor a write at the offset changes anything.
pub record IgnoresAccesses (offset : ℕ) (state : AdapterState) : Type 0 where
  -- A read at the offset returns 0.
  pub answered : answer_at offset state ≡ 0
  -- A read at the offset changes nothing.
  pub read : after_read offset state ≡ state
  -- A write at the offset changes nothing.
  pub written : (value : ℕ) → after_write offset value state ≡ state

-- An access at the offset of a register is an access of this register (`AccessesByRegister`), in each state.
abbrev pub AccessesByOffset : Type 0
AccessesByOffset = (offset : ℕ) (register : Register) (state : AdapterState) → StandsAt offset register
    → AccessesByRegister offset register state

-- If no register is at an offset, accesses at this offset are ignored (`IgnoresAccesses`), in each state.
abbrev pub OutsideIsIgnored : Type 0
OutsideIsIgnored = (offset : ℕ) (state : AdapterState) → ((register : Register) → ¬ (StandsAt offset register))
    → IgnoresAccesses offset state

-- Right after a write that is no reset, a register whose row has kept bits reads the kept bits of the written value.
abbrev pub PlainReadsBack : Type 0
PlainReadsBack =
    (register : Register) (kept value : ℕ) (state : AdapterState)
    → HasRegisters state → IsInTable register → (row_of register).kept ≡ Some kept → is_reset register value ≡ false
    → answer register (write_of register value state) ≡ bit_and value kept

-- A write of the first register can change what the second register reads: CTRL changes STATUS by SLU, ICS changes ICR, and IMC changes
-- IMS.
pub data Touches : Register → Register → Type 0 where
  -- STATUS depends on CTRL.SLU.
  link_shown : Touches Ctrl Status
  -- A write of ICS records causes.
  causes_set : Touches Ics Icr
  -- A write of IMC removes causes from the mask.
  mask_cleared : Touches Imc Ims

-- A write of one register doesn't change what another register reads, unless `Touches` holds for the two registers or the write is a reset.
abbrev pub OthersStayAtWrite : Type 0
OthersStayAtWrite =
    (written other : Register) (value : ℕ) (state : AdapterState)
    → written ≢ other → ¬ (Touches written other) → is_reset written value ≡ false
    → answer other (write_of written value state) ≡ answer other state

-- A read of one register doesn't change what another register reads.
abbrev pub OthersStayAtRead : Type 0
OthersStayAtRead =
    (read other : Register) (state : AdapterState) → read ≢ other → answer other (read_of read state) ≡ answer other state

-- What STATUS reads after a write of CTRL, ICR after a write of ICS, and IMS after a write of IMC.
pub record TouchedRead (value : ℕ) (state : AdapterState) : Type 0 where
  -- After a write of CTRL that is no reset, STATUS shows a link if and only if the PHY's link is up and the write set SLU.
  pub link_shown : is_reset Ctrl value ≡ false
      → answer Status (write_of Ctrl value state) ≡ (if link_is_up state.phy && is_set value ctrl_slu then status_of_link_up else 0)
  -- After a write of ICS, ICR reads the causes that it read before, and the written causes.
  pub causes_set : answer Icr (write_of Ics value state) ≡ union (answer Icr state) (causes_of value)
  -- After a write of IMC, IMS reads the earlier mask without the written causes.
  pub mask_cleared : answer Ims (write_of Imc value state) ≡ difference (answer Ims state) (causes_of value)

-- `TouchedRead` holds for each written value and each state.
abbrev pub TouchedByWrites : Type 0
TouchedByWrites = (value : ℕ) (state : AdapterState) → TouchedRead value state

-- The registers, the PHY and the EEPROM after a write of CTRL with RST.
pub record IsReset (before after : AdapterState) : Type 0 where
  -- Each register except PBA reads its reset value from the table.
  pub registers : (register : Register) → IsInTable register → register ≢ Pba → answer register after ≡ (row_of register).reset before.image
  -- PBA doesn't change.
  pub allocation : answer Pba after ≡ answer Pba before
  -- The PHY doesn't change.
  pub phy : after.phy ≡ before.phy
  -- The EEPROM doesn't change.
  pub image : after.image ≡ before.image

-- A write of CTRL with RST resets the adapter (`IsReset`), whatever the other bits of the value.
abbrev pub ResetByTable : Type 0
ResetByTable = (value : ℕ) (state : AdapterState) → is_reset Ctrl value ≡ true → IsReset state (write_of Ctrl value state)

-- After power-on, each register, including PBA, reads its reset value from the table.
abbrev pub PowerOnByTable : Type 0
PowerOnByTable =
    (register : Register) (words : List ℕ) (link : Link) → IsInTable register
    → answer register (new_adapter words link) ≡ (row_of register).reset words
