-- The bits of CTRL, RCTL and TCTL that a write stores, the interrupt causes, and the value of STATUS. The places of the bits are those of
-- chapter 13, "Register Descriptions", of Intel's "PCI/PCI-X Family of Gigabit Ethernet Controllers Software Developer's Manual". The other
-- bits read 0 (our choice).
use Rattle.std.specs.Prelude.{ℕ, bit_and}
use Rattle.registers.specs.Bits.{union}
use Rattle.registers.specs.Places.{alone, ctrl_rst}

-- CTRL (13.4.1 "Device Control Register"): FD 0, ASDE 5, SLU 6, VME 30. A write with RST 26 is a reset, and RST isn't stored.
abbrev pub control_mask : ℕ
control_mask = 0x40000061

-- The bits that CTRL stores, and RST.
abbrev pub written_control_mask : ℕ
written_control_mask = union control_mask (alone ctrl_rst)

-- RCTL (13.4.22 "Receive Control Register"): EN 1, UPE 3, MPE 4, LPE 5, RDMTS 9:8, MO 13:12, BAM 15, BSIZE 17:16,
-- VFE 18, BSEX 25, SECRC 26.
abbrev pub receive_control_mask : ℕ
receive_control_mask = 0x0607B33A

-- TCTL (13.4.33 "Transmit Control Register"): EN 1, PSP 3, CT 11:4, COLD 21:12.
abbrev pub transmit_control_mask : ℕ
transmit_control_mask = 0x003FFFFA

-- ICR, ICS, IMS and IMC (13.4.17 to 13.4.21): TXDW 0, TXQE 1, LSC 2, RXDMT0 4, RXO 6, RXT0 7, MDAC 9.
abbrev pub all_causes : ℕ
all_causes = 0x2D7

-- The causes whose bits are 1 in a written word.
abbrev pub causes_of : ℕ → ℕ
causes_of written = bit_and written all_causes

-- STATUS (13.4.2 "Device Status Register") while the PHY's link is up and CTRL.SLU is set: FD, LU, and SPEED 10 in binary, 1000 Mb/s.
-- Otherwise STATUS reads 0 (our choice).
abbrev pub status_of_link_up : ℕ
status_of_link_up = 0x83
