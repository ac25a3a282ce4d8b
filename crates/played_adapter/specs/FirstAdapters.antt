-- A new adapter, as a program's options define it (our choice).
use Rattle.std.specs.Prelude.{ℕ, List}
use Rattle.adapter.specs.Registers.{after_write, new_adapter}
use Rattle.adapter.specs.State.{AdapterState}
use Rattle.mdic_phy.specs.declared.phy.Link.{Link}

-- PBA's offset (13.4.16 "Packet Buffer Allocation")
abbrev pub pba : ℕ
pba = 0x1000

-- the adapter with this value in MPC
abbrev pub with_missed : (count : ℕ) → AdapterState → AdapterState
with_missed count adapter = record adapter { missed_packets = count }

-- a new adapter with these words of the EEPROM and this link, whose PBA was written once, and whose MPC has this count
abbrev pub first_adapter : (image : List ℕ) → Link → (receive_kilobytes missed : ℕ) → AdapterState
first_adapter image link receive_kilobytes missed = with_missed missed (after_write pba receive_kilobytes (new_adapter image link))
