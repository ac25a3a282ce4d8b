-- The writes of initialization to the tables of the receive filter ("13.5.1 Multicast Table Array", "13.5.2 Receive
-- Address Low", "13.5.3 Receive Address High", "13.5.4 VLAN Filter Table Array").
use Rattle.std.specs.Prelude.{◌+◌, ◌-◌, ◌*◌, ◌++◌, ℕ, zero, suc, List, [], ◌∷◌}
use Rattle.adapter.specs.model_types.offsets.TheConstants.{ADDRESS_PAIR_BYTES, RAL, REGISTER_BYTES}
use Rattle.registers.specs.Places.{alone, rah_av}
use Rattle.rx_filter.specs.Addresses.{high_word, low_word}
use Rattle.rx_filter.specs.declared.filter.TheConstants.{RECEIVE_ADDRESSES}
use Rattle.adapter.specs.Settings.{Write}
use Rattle.bring_up.specs.WrittenRegisters.{write_at}

-- The writes of these words to consecutive registers, from an offset on.
abbrev pub table_writes : ℕ → List ℕ → List Write
table_writes offset [] = []
table_writes offset (word ∷ later) = write_at offset word ∷ table_writes (offset + REGISTER_BYTES) later

-- The writes of the words `low` and `high` to RAL and RAH of one entry of the receive addresses.
abbrev pub entry_writes : ℕ → ℕ → ℕ → List Write
entry_writes entry low high =
    write_at (RAL + ADDRESS_PAIR_BYTES * entry) low ∷ write_at (RAL + REGISTER_BYTES + ADDRESS_PAIR_BYTES * entry) high ∷ []

-- The writes of value 0 to RAL and RAH of `count` entries of the receive addresses, from an entry on.
abbrev pub empty_entries : (entry count : ℕ) → List Write
empty_entries entry zero = []
empty_entries entry (suc count) = entry_writes entry 0 0 ++ empty_entries (entry + 1) count

-- The writes of the receive addresses: the first entry gets the address and AV, and the other 15 entries get 0.
abbrev pub address_writes : List ℕ → List Write
address_writes address =
    entry_writes 0 (low_word address) (high_word address + alone rah_av) ++ empty_entries 1 (RECEIVE_ADDRESSES - 1)
