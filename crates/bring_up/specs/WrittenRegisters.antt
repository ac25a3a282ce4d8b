-- The writes of initialization to CTRL, IMC, PBA and IMS ("14.3 General Initialization"). The order is our choice. The writes to the filter
-- are in `FilterTables`, and those to RCTL, TCTL and the rings' registers in `RingRegisters`.
use Rattle.std.specs.Prelude.{◌+◌, ◌^◌, ℕ, List, [], ◌∷◌}
use Rattle.adapter.specs.model_types.offsets.TheConstants.{CTRL, IMC, IMS, PBA}
use Rattle.adapter.specs.Settings.{Write}
use Rattle.registers.specs.Places.{alone, ctrl_asde, ctrl_rst, ctrl_slu, rxdmt0, rxo, rxt0, txdw}

-- A register has 32 bits, so its value is below this number (chapter 13, "Register Descriptions").
abbrev pub register_limit : ℕ
register_limit = 2 ^ 32

-- The write of this value at this offset.
abbrev pub write_at : ℕ → ℕ → Write
write_at offset value = record { offset = offset; value = value }

-- The writes of a reset: RST to CTRL, and all ones to IMC, which removes all causes from the mask.
abbrev pub reset_writes : List Write
reset_writes = write_at CTRL (alone ctrl_rst) ∷ write_at IMC 0xFFFFFFFF ∷ []

-- The write of PBA with this RXA.
abbrev pub allocation_writes : ℕ → List Write
allocation_writes kilobytes = write_at PBA kilobytes ∷ []

-- The value of CTRL: SLU and ASDE.
abbrev pub link_control : ℕ
link_control = alone ctrl_slu + alone ctrl_asde

-- The write of CTRL that enables the link.
abbrev pub enable_link_writes : List Write
enable_link_writes = write_at CTRL link_control ∷ []

-- the causes that a driver handles, and enables in IMS
abbrev pub handled_causes : ℕ
handled_causes = alone txdw + alone rxdmt0 + alone rxo + alone rxt0

-- the write of IMS
abbrev pub mask_writes : List Write
mask_writes = write_at IMS handled_causes ∷ []
