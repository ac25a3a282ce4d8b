use Rattle.std.proofs.Common.{◌-◌, ◌≡◌, ◌+◌, ◌≤◌, drop, false, length}
use Rattle.std.specs.Fmt.{digits_onto}
use Rattle.access_names.proofs.name.TargetName.prepend_hexadecimal.Given as goal

-- The digits of `left`, added in front of the written digits, are the digits of `number`. At most `turns` more digits are written.
abbrev pub invariant-loop-turns : goal.invariant-loop-turns
invariant-loop-turns l =
    (digits_onto l.turns 16 false l.left (drop l.at l.self.bytes)
    ≡ digits_onto 64 16 false l.number (drop l.initial.self.start l.initial.self.bytes))
    × (l.at + 64 ≡ l.initial.self.start + l.turns) × (1 ≤ l.turns) × (l.turns ≤ 64) × (l.initial.self.start ≤ 128)
    × (64 ≤ l.initial.self.start) × (length l.self.bytes ≡ 128)

abbrev pub decreases-loop-turns : goal.decreases-loop-turns
decreases-loop-turns l = l.turns - 1
