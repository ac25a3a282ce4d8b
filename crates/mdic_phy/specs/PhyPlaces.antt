-- The places of the bits of the PHY's registers (IEEE 802.3, 22.2.4, "Management functions") and of MDIC (13.4.7 of Intel's manual, "MDI
-- Control Register"). The place of a field of several bits is the place of its lowest bit.
use Rattle.std.specs.Prelude.{ℕ}

-- Reset, in register 0 (22.2.4.1 "Control register").
abbrev pub control_reset : ℕ
control_reset = 15

-- Auto-Negotiation Enable, in register 0 (22.2.4.1).
abbrev pub control_enable : ℕ
control_enable = 12

-- Restart Auto-Negotiation, in register 0 (22.2.4.1).
abbrev pub control_restart : ℕ
control_restart = 9

-- Auto-Negotiation Complete, in register 1 (22.2.4.2 "Status register").
abbrev pub status_complete : ℕ
status_complete = 5

-- Link Status, in register 1 (22.2.4.2).
abbrev pub status_link : ℕ
status_link = 2

-- REGADD of MDIC, a field of 5 bits.
abbrev pub mdic_regadd : ℕ
mdic_regadd = 16

-- PHYADD of MDIC, a field of 5 bits.
abbrev pub mdic_phyadd : ℕ
mdic_phyadd = 21

-- OP of MDIC, a field of 2 bits.
abbrev pub mdic_op : ℕ
mdic_op = 26

-- R of MDIC: the command has ended.
abbrev pub mdic_r : ℕ
mdic_r = 28

-- I of MDIC: the end of the command records the cause MDAC.
abbrev pub mdic_i : ℕ
mdic_i = 29

-- E of MDIC: the command has failed.
abbrev pub mdic_e : ℕ
mdic_e = 30

-- Bit 31 of MDIC, which is reserved.
abbrev pub mdic_reserved : ℕ
mdic_reserved = 31
