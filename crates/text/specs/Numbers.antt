-- Which texts spell a number, and which number they spell (our choice).
use Rattle.std.specs.Prelude.{◌^◌, ◌&&◌, ◌==◌, ℕ, Bool, Option, Some, None, codes, if◌then◌else◌, length, nat_lt}
use Rattle.std.specs.Char.{digit_value}
use Rattle.std.specs.List.{after_first, before_first, list_all, position_or_len}
use Rattle.std.specs.Str.{bytes_eq}
use Rattle.std.specs.Str.Parse.{digits_value}
use Rattle.text.specs.Words.{Text}

-- Whether a byte is a digit in this radix, which is at most 36. Digits above 9 are letters of either case.
abbrev pub is_digit : (radix byte : ℕ) → Bool
is_digit radix byte = nat_lt (digit_value byte) radix

-- Whether a text is one or more digits of this radix, and spells a number below 2 ^ bits.
abbrev pub is_number : (radix bits : ℕ) → Text → Bool
is_number radix bits text = nat_lt 0 (length text) && list_all (is_digit radix) text && nat_lt (digits_value radix text) (2 ^ bits)

-- The number that a text spells in this radix, if the text is one or more digits and the number is below 2 ^ bits. Otherwise `None`.
abbrev pub number_in : (radix bits : ℕ) → Text → Option ℕ
number_in radix bits text = if is_number radix bits text then Some (digits_value radix text) else None

-- Whether a byte is an `x`, as in `0x10`.
abbrev pub is_x : ℕ → Bool
is_x byte = byte == 0x78

-- Whether a text contains an `x`.
abbrev pub has_x : Text → Bool
has_x text = nat_lt (position_or_len is_x text) (length text)

-- Whether the part of a text before its first `x` is `0`.
abbrev pub begins_0x : Text → Bool
begins_0x text = bytes_eq (before_first is_x text) (codes "0")

-- The part of a text after its first `x`.
abbrev pub behind_0x : Text → Text
behind_0x text = after_first is_x text

-- The number below 2 ^ 64 that a text spells: decimal digits, or hexadecimal digits after `0x`. `None` for any other text.
abbrev pub number_spelled : Text → Option ℕ
number_spelled text =
    if has_x text then (if begins_0x text then number_in 16 64 (behind_0x text) else None)
    else number_in 10 64 text
