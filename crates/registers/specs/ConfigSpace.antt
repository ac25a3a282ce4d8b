-- The configuration space of the adapter: 256 bytes, as dwords at the offsets 0, 4, 8 and so on.
-- Registers: PCI Local Bus Specification 2.2, 6.1 "Configuration Space Organization" and 6.2 "Configuration Space
-- Functions". Values: section 4.1, "PCI Configuration", of Intel's "PCI/PCI-X Family of Gigabit Ethernet Controllers
-- Software Developer's Manual".
use Rattle.std.specs.Prelude.{◌==◌, ℕ, Bool, Option, Some, None, bit_and, bit_or, if◌then◌else◌}

-- The state that a function stores.
pub record PciState : Type 0 where
  -- The contents of CONFIG_ADDRESS.
  pub address : ℕ
  -- The contents of the command register.
  pub command : ℕ
  -- The address of the adapter's first register. Base address register 0 shows bits 31:17 of this address.
  pub registers : ℕ
  -- The contents of the interrupt line register.
  pub interrupt_line : ℕ

-- The command register after a write of this dword at 04h: only bits 0, 1, 2, 4, 6 and 8 are stored (6.2.2 "Device Control"; manual, 4.1).
abbrev pub kept_command : ℕ → ℕ
kept_command word = bit_and word 0x157

-- Whether Memory Space, bit 1 of the command register, is set (6.2.2).
abbrev pub has_memory_space : ℕ → Bool
has_memory_space command = bit_and command 2 == 2

-- The value of base address register 0: bits 31:17 of an address. The registers occupy 128 KB, so bits 16:0 are 0 (6.2.5.1 "Address
-- Maps"; manual, 4.1).
abbrev pub base_of : ℕ → ℕ
base_of address = bit_and address 0xFFFE0000

-- Interrupt Status as a bit of the dword at 04h: bit 3 of the status register, the high half of this dword (manual, 4.1).
abbrev pub interrupt_status : Bool → ℕ
interrupt_status asserted = if asserted then 0x80000 else 0

-- The table of configuration space: the dword at an offset. `asserted` is whether the interrupt line is asserted. Dwords that aren't in the
-- table are 0 (6.1; that the adapter has no capabilities, no ROM and no registers in I/O space is our choice).
abbrev pub config_word : PciState → Bool → ℕ → ℕ
config_word function asserted offset =
    -- device ID and vendor ID
    if offset == 0x00 then 0x100E8086
    -- status (66 MHz capable, DEVSEL timing medium, Interrupt Status) and command
    else if offset == 0x04 then bit_or (bit_or 0x02200000 (interrupt_status asserted)) function.command
    -- class code (an Ethernet controller) and revision
    else if offset == 0x08 then 0x02000002
    -- base address register 0: 32 bits wide, in memory space, not prefetchable
    else if offset == 0x10 then base_of function.registers
    -- subsystem ID and subsystem vendor ID
    else if offset == 0x2C then 0x001E8086
    -- Max_Lat, Min_Gnt, interrupt pin INTA#, and interrupt line
    else if offset == 0x3C then bit_or 0x00FF0100 function.interrupt_line
    else 0

-- The state after a write of the dword at an offset. A write of any other dword than these three changes nothing.
abbrev pub after_write_of : ℕ → ℕ → PciState → PciState
after_write_of offset word function =
    if offset == 0x04 then record function { command = kept_command word }
    else if offset == 0x10 then record function { registers = base_of word }
    else if offset == 0x3C then record function { interrupt_line = bit_and word 0xFF }
    else function

-- A function whose firmware has enabled memory space and bus mastering (our choice). CONFIG_ADDRESS and the interrupt line register are
-- 0. Until base address register 0 is written, the registers may be at an address that this register can't show.
abbrev pub new_function : ℕ → PciState
new_function registers = record { address = 0; command = 0x6; registers = registers; interrupt_line = 0 }

-- The address of the first register if Memory Space is set in the command register, else `None`.
abbrev pub registers_of : PciState → Option ℕ
registers_of function = if has_memory_space function.command then Some function.registers else None
