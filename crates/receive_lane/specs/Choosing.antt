-- The registers of the receive filter for the options of a pass. (Intel's manual, "13.5 Filter Registers" and "13.4.22 Receive
-- Control"; the meaning of the options: our choice)
use Rattle.std.specs.Prelude.{◌+◌, ◌/◌, ◌%◌, ◌^◌, ◌&&◌, ℕ, List, Bool, true, false, Option, Some, None, is_none, is_some, slice_set}
use Rattle.rx_filter.specs.Addresses.{low_word, high_word, group_number}
use Rattle.rx_filter.specs.Registers.{FilterRegisters}
use Rattle.receive_lane.specs.declared.filter.PassFilter.{PassFilter}
use Rattle.rx_filter.specs.declared.filter.TheConstants.{VLAN_TYPE}
use Rattle.registers.specs.Places.{alone, rctl_bam, rctl_en, rctl_mpe, rctl_upe, rctl_vfe}

-- RAL(0) and RAH(0): the address, with AV, or 0 if no address is given
abbrev pub with_address : Option (List ℕ) → FilterRegisters → FilterRegisters
with_address None r = record r { ral = slice_set r.ral 0 0; rah = slice_set r.rah 0 0 }
with_address (Some address) r = record r
    { ral = slice_set r.ral 0 (low_word address); rah = slice_set r.rah 0 (high_word address + 2 ^ 31) }

-- the table, in which the word that contains a number's bit is replaced: only this bit of the new word is 1
abbrev pub with_bit : List ℕ → ℕ → List ℕ
with_bit table number = slice_set table (number / 32) (2 ^ (number % 32))

-- MTA, if a group is given: in the word of the group's number, only this number's bit is 1. The number is bits 47 to 36 of the group's
-- address.
abbrev pub with_group_bit : Option (List ℕ) → FilterRegisters → FilterRegisters
with_group_bit None r = r
with_group_bit (Some group) r = record r { mta = with_bit r.mta (group_number 4 group) }

-- VFTA, if a VLAN is given: in the word of the VLAN's number, only this number's bit is 1
abbrev pub with_vlan_bit : Option ℕ → FilterRegisters → FilterRegisters
with_vlan_bit None r = r
with_vlan_bit (Some number) r = record r { vfta = with_bit r.vfta number }

-- the registers for the options' address, group and VLAN; VET is `VLAN_TYPE`
abbrev pub with_tables : PassFilter → FilterRegisters → FilterRegisters
with_tables options r =
    record (with_vlan_bit options.vlan (with_group_bit options.group (with_address options.address r))) { vet = VLAN_TYPE }

-- RCTL: EN and BAM; also UPE and MPE if every address is accepted (the first argument), and VFE if a VLAN is given (the second).
abbrev pub mode_bits : Bool → Bool → ℕ
mode_bits true false = alone rctl_en + alone rctl_bam + alone rctl_upe + alone rctl_mpe
mode_bits true true = alone rctl_en + alone rctl_bam + alone rctl_upe + alone rctl_mpe + alone rctl_vfe
mode_bits false false = alone rctl_en + alone rctl_bam
mode_bits false true = alone rctl_en + alone rctl_bam + alone rctl_vfe

-- RCTL for these options
abbrev pub mode_for : PassFilter → ℕ
mode_for options = mode_bits (is_none options.address && is_none options.group) (is_some options.vlan)
