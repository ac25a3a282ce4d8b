-- PBA, the packet buffer allocation register: the kilobytes of the packet buffer's receive part (RXA).
use Rattle.std.specs.Prelude.{◌≡◌, ◌≤◌, ◌+◌, ◌-◌, ◌*◌, ◌%◌, ◌==◌, ◌&&◌, ℕ, Bool, nat_le, if◌then◌else◌}

-- A value that RXA may have: an even number from 2 to 48 (our choice).
pub record IsAllocation (kilobytes : ℕ) : Type 0 where
  -- RXA is at least 2.
  pub least : 2 ≤ kilobytes
  -- RXA is at most 48.
  pub most : kilobytes ≤ 48
  -- RXA is even.
  pub even : kilobytes % 2 ≡ 0

-- Whether RXA may have this value.
abbrev pub is_allocation : ℕ → Bool
is_allocation kilobytes = nat_le 2 kilobytes && (nat_le kilobytes 48 && kilobytes % 2 == 0)

-- RXA after a write of PBA: bits 15:0 of the written value, if RXA may have this number. Any other write is ignored (our choice).
abbrev pub allocation_written : ℕ → ℕ → ℕ
allocation_written value kilobytes = if is_allocation (value % 65536) then value % 65536 else kilobytes

-- The value of PBA: RXA in bits 15:0, and the kilobytes of the transmit part, 64 - RXA, in the upper half (13.4.16 "Packet Buffer
-- Allocation").
abbrev pub allocation_shown : ℕ → ℕ
allocation_shown kilobytes = (64 - kilobytes) * 65536 + kilobytes
