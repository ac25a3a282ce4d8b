-- Configuration mechanism #1 (PCI Local Bus Specification 2.2, 3.2.2.3.2 "Software Generation of Configuration
-- Transactions"): the port CONFIG_ADDRESS at CF8h, and the four ports of CONFIG_DATA from CFCh on.
use Rattle.std.specs.Prelude.{◌==◌, ◌&&◌, ◌+◌, ◌-◌, ℕ, Bool, false, Option, Some, None}
use Rattle.std.specs.Prelude.{bit_and, if◌then◌else◌, nat_le}
use Rattle.registers.specs.declared.port_width.PortWidth.{PortWidth}
use Rattle.registers.specs.Bits.{field}
use Rattle.registers.specs.Bytes.{number_from, ones_of, width_size, with_number_from}
use Rattle.registers.specs.ConfigSpace.{PciState, after_write_of, config_word}

-- The bits of CONFIG_ADDRESS that a write stores: an enable bit (31), and the numbers of a bus (23:16), a device (15:11), a function (10:8)
-- and a dword (7:2). The other bits read 0.
abbrev pub kept_address : ℕ → ℕ
kept_address value = bit_and value 0x80FFFFFC

-- Whether this value of CONFIG_ADDRESS enables accesses of CONFIG_DATA, and selects the adapter: bus 0, device 4, function 0 (our choice).
abbrev pub selects_function : ℕ → Bool
selects_function address =
    field address 31 1 == 1 && field address 16 8 == 0 && field address 11 5 == 4 && field address 8 3 == 0

-- The offset of the selected dword in configuration space, in bytes.
abbrev pub offset_in : ℕ → ℕ
offset_in address = bit_and address 0xFC

-- Whether an access reaches CONFIG_ADDRESS: an access of four bytes at CF8h. Accesses of fewer bytes don't reach CONFIG_ADDRESS.
abbrev pub is_address_port : ℕ → PortWidth → Bool
is_address_port port width = port == 0xCF8 && width_size width == 4

-- The first byte of the selected dword that an access of CONFIG_DATA reads or writes. The result is `None` if a byte of the access isn't at
-- a port of CONFIG_DATA, or CONFIG_ADDRESS doesn't select the adapter.
abbrev pub first_byte : ℕ → PortWidth → ℕ → Option ℕ
first_byte port width address =
    if nat_le 0xCFC port && nat_le (port + width_size width) 0xD00 && selects_function address then Some (port - 0xCFC)
    else None

-- What a read of bytes of the selected dword returns. For `None`, nothing answers, and all bits of this width are 1 (6.1 "Configuration
-- Space Organization").
abbrev pub data_answer : Option ℕ → PortWidth → Bool → PciState → ℕ
data_answer (Some first) width asserted function =
    number_from first width (config_word function asserted (offset_in function.address))
data_answer None width asserted function = ones_of width

-- What a read of a port returns. If the access is neither of CONFIG_ADDRESS nor of bytes of the adapter's selected dword, all bits of this
-- width are 1.
abbrev pub port_answer : ℕ → PortWidth → Bool → PciState → ℕ
port_answer port width asserted function =
    if is_address_port port width then function.address
    else data_answer (first_byte port width function.address) width asserted function

-- The state after a write of bytes of the selected dword, whose other bytes don't change. For `None`, the write is ignored. Interrupt
-- Status can't be written, so the state of the interrupt line doesn't matter.
abbrev pub after_data_write : Option ℕ → PortWidth → ℕ → PciState → PciState
after_data_write (Some first) width value function =
    let offset = offset_in function.address in
    after_write_of offset (with_number_from first width value (config_word function false offset)) function
after_data_write None width value function = function

-- The state after a write of a port. If the access is neither of CONFIG_ADDRESS nor of bytes of the adapter's selected dword, the write
-- is ignored.
abbrev pub after_port_write : ℕ → PortWidth → ℕ → PciState → PciState
after_port_write port width value function =
    if is_address_port port width then record function { address = kept_address value }
    else after_data_write (first_byte port width function.address) width value function
