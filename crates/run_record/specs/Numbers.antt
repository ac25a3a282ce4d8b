-- Numbers that saturate (our choice).
use Rattle.std.specs.Prelude.{◌+◌, ◌^◌, ◌-◌, ℕ, min}

-- the greatest event number and the greatest count: 2^64 - 1
abbrev pub greatest_act_number : ℕ
greatest_act_number = 2 ^ 64 - 1

-- this number plus 1, but at most the greatest number
abbrev pub next_number : ℕ → ℕ
next_number number = min (number + 1) greatest_act_number

-- a number as a summary contains it: at most the greatest number
abbrev pub as_told : ℕ → ℕ
as_told number = min number greatest_act_number
