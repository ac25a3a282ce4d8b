-- Bytes of a dword. Byte 0 is the lowest.
use Rattle.std.specs.Prelude.{ℕ, ◌+◌, ◌-◌, ◌*◌, ◌/◌, ◌%◌, ◌^◌, List, ◌++◌, length, take, drop}
use Rattle.std.specs.Int.{from_le_bytes, to_le_bytes, w32}
use Rattle.registers.specs.declared.port_width.PortWidth.{PortWidth}
use Rattle.registers.specs.declared.port_width.PortWidth.TheVariants.{Byte, Word, Long}

-- The number of bytes of a width.
abbrev pub width_size : PortWidth → ℕ
width_size Byte = 1
width_size Word = 2
width_size Long = 4

-- The greatest number of a width, whose bits are all 1.
abbrev pub ones_of : PortWidth → ℕ
ones_of width = 2 ^ (8 * width_size width) - 1

-- The number in the bytes of this width from byte `first` on.
abbrev pub number_from : ℕ → PortWidth → ℕ → ℕ
number_from first width word = word / 2 ^ (8 * first) % 2 ^ (8 * width_size width)

-- The bytes of a dword in which these bytes have replaced the bytes from byte `first` on.
abbrev pub replaced : ℕ → List ℕ → List ℕ → List ℕ
replaced first bytes old = take first old ++ bytes ++ drop (first + length bytes) old

-- The dword in which the low bytes of a value, of this width, have replaced the bytes from byte `first` on.
abbrev pub with_number_from : ℕ → PortWidth → ℕ → ℕ → ℕ
with_number_from first width value word =
    let written : List ℕ = take (width_size width) (to_le_bytes w32 value) in
    from_le_bytes w32 (replaced first written (to_le_bytes w32 word))
