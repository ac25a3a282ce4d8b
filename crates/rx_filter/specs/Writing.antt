-- The effect of writes of addresses and of table bits on the filter's sets: the laws that `sets_of_registers` states.
use Rattle.std.specs.Prelude.{◌≡◌, ◌+◌, ◌/◌, ◌%◌, ◌^◌, ◌<◌, ◌⊎◌, ◌↔◌, ℕ, List, length, replicate, slice_index, slice_set}
use Rattle.registers.specs.Bits.{field, union}
use Rattle.registers.specs.Places.{alone, rah_av}
use Rattle.rx_filter.specs.Addresses.{IsAddress, low_word, high_word}
use Rattle.rx_filter.specs.Registers.{HasEntry, HasTableBit}

-- The table with this number's bit set.
abbrev pub with_number : List ℕ → ℕ → List ℕ
with_number table number =
    slice_set table (number / 32) (union (slice_index table (number / 32)) (2 ^ (number % 32)))

-- Registers that are all 0 contain no valid address.
abbrev pub NoAddressAtFirst : Type 0
NoAddressAtFirst = (n : ℕ) (address : List ℕ) → ¬ (HasEntry (replicate n 0) (replicate n 0) address)

-- An address that is written, with AV, to one of the 16 entries that isn't valid is added to the receive addresses. No other address is
-- added or removed.
abbrev pub AddressIsAdded : Type 0
AddressIsAdded =
    (ral rah : List ℕ) (n : ℕ) (address other : List ℕ)
    → IsAddress address → n < 16 → n < length ral → n < length rah → field (slice_index rah n) rah_av 1 ≡ 0
    → HasEntry (slice_set ral n (low_word address)) (slice_set rah n (high_word address + alone rah_av)) other
    ↔ ((other ≡ address) ⊎ HasEntry ral rah other)

-- A table that is all 0 contains no number.
abbrev pub NoNumberAtFirst : Type 0
NoNumberAtFirst = (n number : ℕ) → ¬ (HasTableBit (replicate n 0) number)

-- Setting a bit that is inside the table adds the number of this bit, and no other, to the numbers of the table.
abbrev pub NumberIsAdded : Type 0
NumberIsAdded =
    (table : List ℕ) (number other : ℕ) → number / 32 < length table
    → HasTableBit (with_number table number) other ↔ ((other ≡ number) ⊎ HasTableBit table other)
