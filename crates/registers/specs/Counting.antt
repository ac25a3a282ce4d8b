-- Statistics counters (13.7 "Statistics Registers"): numbers that saturate at their greatest value.
use Rattle.std.specs.Prelude.{ℕ}

-- The greatest value of a counter of 32 bits.
abbrev pub greatest_count : ℕ
greatest_count = 0xFFFFFFFF
