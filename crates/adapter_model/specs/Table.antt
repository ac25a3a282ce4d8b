-- The table of registers (chapter 13 "Register Descriptions"): the offset of each register, the bits that a write stores, and the reset
-- value. The reset values of PBA, RAL(0) and RAH(0) are the manual's. Any other reset value that isn't in the manual or differs from the
-- manual's is our choice. The kept bits, if the manual has more, are our choice too.
use Rattle.std.specs.Prelude.{◌≡◌, ◌+◌, ◌-◌, ◌*◌, ◌/◌, ◌%◌, ◌<◌, ◌==◌, ◌&&◌, ℕ, List, [], ◌∷◌, Option, Some, None, find, nat_lt, nat_le}
use Rattle.std.specs.Prelude.{slice_index, if◌then◌else◌}
use Rattle.adapter_model.specs.declared.register.RingRegister.TheVariants.{BaseLow, BaseHigh, Length, Head, Tail}
use Rattle.adapter_model.specs.declared.register.Register.{Register}
use Rattle.adapter_model.specs.declared.register.Register.TheVariants.{Ctrl, Status, Eerd, Mdic, Vet, Icr, Ics, Ims, Imc, Rctl, Tctl, Pba}
use Rattle.adapter_model.specs.declared.register.Register.TheVariants.{Receive, Transmit, Mpc, Gprc, Gptc, Rnbc, Mta, Ral, Rah, Vfta}
use Rattle.adapter_model.specs.Rings.{ring_distance, ring_kept}
use Rattle.registers.specs.Places.{alone, rah_av}
use Rattle.registers.specs.Kept.{control_mask, receive_control_mask, transmit_control_mask}
use Rattle.rx_filter.specs.Registers.{address_high_mask}

-- A row of the table.
pub record Row : Type 0 where
  -- The offset in bytes.
  pub offset : ℕ
  -- The bits that a write stores and a read returns, if the register has no other rule except RST of CTRL. Otherwise `None`.
  pub kept : Option ℕ
  -- The value after power-on and, except for PBA, after a reset, by the words of the EEPROM.
  pub reset : List ℕ → ℕ

-- The row of a register with these kept bits. Its reset value is the same for each EEPROM.
abbrev pub plain : ℕ → ℕ → ℕ → Row
plain offset kept reset = record { offset = offset; kept = Some kept; reset = λ words. reset }

-- The row of a register that has no kept bits, but another rule. Its reset value is the same for each EEPROM.
abbrev pub ruled : ℕ → ℕ → Row
ruled offset reset = record { offset = offset; kept = None; reset = λ words. reset }

-- RAL(0) is words 0 and 1 of the EEPROM, word 0 in the low half (13.5.3 "Receive Address High"); that the other entries are 0 is our choice
abbrev pub address_low_at_reset : ℕ → List ℕ → ℕ
address_low_at_reset entry words = if entry == 0 then slice_index words 1 * 65536 + slice_index words 0 else 0

-- RAH(0) is word 2 of the EEPROM with AV, bit 31, and AV of the other entries is 0 (13.5.3 "Receive Address High"); that their other bits
-- are 0 is our choice
abbrev pub address_high_at_reset : ℕ → List ℕ → ℕ
address_high_at_reset entry words = if entry == 0 then alone rah_av + slice_index words 2 else 0

-- The row of each register. If a register does more than store its kept bits, the comment above its row states its rule.
abbrev pub row_of : Register → Row
-- a write with RST, bit 26, resets the adapter; RST reads 0
row_of Ctrl = plain 0x0000 control_mask 0
-- read only: 0x83 while the PHY's link is up and CTRL.SLU is set, else 0
row_of Status = ruled 0x0008 0
-- reads a word of the EEPROM (crate `eeprom`)
row_of Eerd = ruled 0x0014 0
-- reads and writes registers of the PHY (crate `mdic_phy`)
row_of Mdic = ruled 0x0020 0
row_of Vet = plain 0x0038 0x0000FFFF 0x8100
-- causes 0x2D7; a read clears all causes, and a write clears each cause whose bit is written as 1
row_of Icr = ruled 0x00C0 0
-- a write records causes; a read returns 0
row_of Ics = ruled 0x00C8 0
-- a write adds causes to the mask; a read returns the mask
row_of Ims = ruled 0x00D0 0
-- a write removes causes from the mask; a read returns 0
row_of Imc = ruled 0x00D8 0
row_of Rctl = plain 0x0100 receive_control_mask 0
row_of Tctl = plain 0x0400 transmit_control_mask 0
-- RXA, bits 15:0, is an even number from 2 to 48, and a write of any other RXA is ignored; the upper half reads 64 - RXA
row_of Pba = ruled 0x1000 0x00100030
row_of (Receive part) = plain (0x2800 + ring_distance part) (ring_kept part) 0
row_of (Transmit part) = plain (0x3800 + ring_distance part) (ring_kept part) 0
-- a counter: a read clears it, and a write is ignored
row_of Mpc = ruled 0x4010 0
-- a counter: a read clears it, and a write is ignored
row_of Gprc = ruled 0x4074 0
-- a counter: a read clears it, and a write is ignored
row_of Gptc = ruled 0x4080 0
-- a counter: a read clears it, and a write is ignored
row_of Rnbc = ruled 0x40A0 0
row_of (Mta word) = plain (0x5200 + 4 * word) 0xFFFFFFFF 0
row_of (Ral entry) = record { offset = 0x5400 + 8 * entry; kept = Some 0xFFFFFFFF; reset = address_low_at_reset entry }
row_of (Rah entry) = record { offset = 0x5404 + 8 * entry; kept = Some address_high_mask; reset = address_high_at_reset entry }
row_of (Vfta word) = plain (0x5600 + 4 * word) 0xFFFFFFFF 0

-- The register exists: if it is in an array, its number is below the number of entries of the array.
abbrev pub IsInTable : Register → Type 0
IsInTable (Mta word) = word < 128
IsInTable (Ral entry) = entry < 16
IsInTable (Rah entry) = entry < 16
IsInTable (Vfta word) = word < 128
IsInTable register = Unit {0}

-- The register exists, and is at this offset.
pub record StandsAt (offset : ℕ) (register : Register) : Type 0 where
  -- The register exists.
  pub in_table : IsInTable register
  -- The row of the register has this offset.
  pub there : (row_of register).offset ≡ offset

-- The registers that aren't in an array.
abbrev pub single_registers : List Register
single_registers =
    Ctrl ∷ Status ∷ Eerd ∷ Mdic ∷ Vet ∷ Icr ∷ Ics ∷ Ims ∷ Imc ∷ Rctl ∷ Tctl ∷ Pba
    ∷ Receive BaseLow ∷ Receive BaseHigh ∷ Receive Length ∷ Receive Head ∷ Receive Tail
    ∷ Transmit BaseLow ∷ Transmit BaseHigh ∷ Transmit Length ∷ Transmit Head ∷ Transmit Tail
    ∷ Mpc ∷ Gprc ∷ Gptc ∷ Rnbc ∷ []

-- The register at an offset, if it is one of the `count` registers of an array. The offset of the first is `first`, and the others follow
-- at distances of `step` bytes.
abbrev pub array_register : ℕ → ℕ → ℕ → (ℕ → Register) → ℕ → Option Register
array_register first count step register offset =
    if nat_le first offset && ((offset - first) % step == 0 && nat_lt ((offset - first) / step) count)
    then Some (register ((offset - first) / step))
    else None

-- The first argument if it is `Some`, else the second.
abbrev pub or_else : Option Register → Option Register → Option Register
or_else (Some register) other = Some register
or_else None other = other

-- The register of MTA, RAL, RAH or VFTA at an offset, if there is one.
unfoldable pub array_register_at : ℕ → Option Register
array_register_at offset =
    or_else (array_register 0x5200 128 4 Mta offset)
    (or_else (array_register 0x5400 16 8 Ral offset)
    (or_else (array_register 0x5404 16 8 Rah offset)
    (array_register 0x5600 128 4 Vfta offset)))

-- The register at an offset, if there is one.
unfoldable pub register_at : ℕ → Option Register
register_at offset = or_else (find (λ register. (row_of register).offset == offset) single_registers) (array_register_at offset)
