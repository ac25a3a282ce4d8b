-- The tables of the receive filter, each with a bit for every number: the group table (13.5.1 "Multicast Table Array") and the VLAN table
-- (13.5.4 "VLAN Filter Table Array").
use Rattle.std.specs.Prelude.{◌≡◌, ◌<◌, ◌↔◌, ℕ, List, length, map}
use Rattle.std.specs.List.{Contains}
use Rattle.registers.specs.ReceiveControl.{shift_of}
use Rattle.registers.specs.declared.receive_control.GroupOffset.TheVariants.{Bits47To36}
use Rattle.rx_filter.specs.Addresses.{group_number}
use Rattle.rx_filter.specs.Registers.{HasTableBit}
use Rattle.rx_filter.specs.declared.filter.TheConstants.{TABLE_WORDS}

-- The number of bits of a table. The numbers of groups and VLANs have 12 bits, so each is below this number.
abbrev pub table_numbers : ℕ
table_numbers = 4096

-- The table has 128 words, and exactly the bits of these numbers are 1.
pub record HasNumbers (table numbers : List ℕ) : Type 0 where
  -- The table has 128 words.
  pub words : length table ≡ TABLE_WORDS
  -- The bit of a number below 4,096 is 1 if and only if the number is in the list.
  pub bits : (number : ℕ) → number < table_numbers → HasTableBit table number ↔ Contains numbers number

-- The numbers of these groups in the group table, if RCTL.MO is 00.
abbrev pub numbers_of_groups : List (List ℕ) → List ℕ
numbers_of_groups groups = map (group_number (shift_of Bits47To36)) groups
