-- Which texts spell an Ethernet address (IEEE 802.3 3.2.3; the form is our choice).
use Rattle.std.specs.Prelude.{◌≡◌, ◌<◌, ◌+◌, ◌*◌, ℕ, List, length, slice_index}
use Rattle.std.specs.Char.{digit_value}

-- The value of a hexadecimal digit: 0 to 9 for '0' to '9', and 10 to 15 for 'a' to 'f' and for 'A' to 'F'. Any other character has a value
-- above 15.
unfoldable pub hexadecimal_value : ℕ → ℕ
hexadecimal_value c = digit_value c

-- The character is a hexadecimal digit, in either case.
abbrev pub IsHexadecimalDigit : ℕ → Type 0
IsHexadecimalDigit c = hexadecimal_value c < 16

-- Both characters are hexadecimal digits. The value of the first is the upper half of the byte, and the value of the second the lower half.
pub record SpellsByte (high low byte : ℕ) : Type 0 where
  pub upper_half : IsHexadecimalDigit high
  pub lower_half : IsHexadecimalDigit low
  pub value : byte ≡ hexadecimal_value high * 16 + hexadecimal_value low

-- The text is six pairs of hexadecimal digits with colons (58) between them: a pair for each byte of the address, in order.
pub record SpellsAddress (text address : List ℕ) : Type 0 where
  pub characters : length text ≡ 17
  pub bytes : length address ≡ 6
  pub pairs : (k : ℕ) → k < 6 → SpellsByte (slice_index text (3 * k)) (slice_index text (3 * k + 1)) (slice_index address k)
  pub colons : (k : ℕ) → k < 5 → slice_index text (3 * k + 2) ≡ 58
