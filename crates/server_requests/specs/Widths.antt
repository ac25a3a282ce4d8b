-- The sizes and the greatest numbers of accesses, and the bytes of a number: the lowest first, as on a little-endian host (our choice).
use Rattle.std.specs.Prelude.{◌-◌, ◌*◌, ◌^◌, ℕ, List, take}
use Rattle.std.specs.Int.{to_le_bytes, w64}
use Rattle.server_requests.specs.declared.request.Wanted.{Wanted}
use Rattle.server_requests.specs.declared.request.Wanted.TheVariants.{Base64, Bytes, Number}
use Rattle.server_requests.specs.declared.request.Width.{Width}
use Rattle.server_requests.specs.declared.request.Width.TheVariants.{Byte, Word, Long, Quad}

-- the size of a number of this width, in bytes
abbrev pub width_bytes : Width → ℕ
width_bytes Byte = 1
width_bytes Word = 2
width_bytes Long = 4
width_bytes Quad = 8

-- the number of bytes that a request to read asks for
abbrev pub wanted_size : Wanted → ℕ
wanted_size (Number width) = width_bytes width
wanted_size (Bytes size) = size
wanted_size (Base64 size) = size

-- the greatest number of a width
abbrev pub greatest : Width → ℕ
greatest width = 2 ^ (8 * width_bytes width) - 1

-- the bytes of a number of this width, the lowest first
unfoldable pub bytes_spelling : Width → ℕ → List ℕ
bytes_spelling width number = take (width_bytes width) (to_le_bytes w64 number)
