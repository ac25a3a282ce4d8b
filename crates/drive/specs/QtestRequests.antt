-- The requests for accesses (QEMU, docs/devel/testing/qtest: readl, writel, read, write; numbers of 16 digits are our choice).
use Rattle.std.specs.Prelude.{◌++◌, ◌+◌, ◌%◌, ◌^◌, ℕ, List, codes, length}
use Rattle.std.specs.Int.{to_be_bytes, w64}
use Rattle.std.specs.List.{flat_map}
use Rattle.hex.specs.Hex.{encode_lower}
use Rattle.adapter.specs.bus_types.event.Access.{Access}
use Rattle.adapter.specs.bus_types.event.Access.TheVariants.{Loads, Reads, Stores, Writes}

-- a space, 0x, and a number in 16 lower-case hexadecimal digits
unfoldable pub number_text : ℕ → List ℕ
number_text number = codes " 0x" ++ encode_lower (to_be_bytes w64 number)

-- the address of the register at an offset, modulo 2^64; the registers begin at the address `registers`
abbrev pub register_address : (registers offset : ℕ) → ℕ
register_address registers offset = (registers + offset) % 2 ^ 64

-- the request for an access; the request for a read is the same for each `value`
abbrev pub request_of : (registers : ℕ) → Access → List ℕ
request_of registers (Reads offset value) = codes "readl" ++ number_text (register_address registers offset) ++ codes "\n"
request_of registers (Writes offset value) =
    codes "writel" ++ number_text (register_address registers offset) ++ number_text value ++ codes "\n"
request_of registers (Loads address size) = codes "read" ++ number_text address ++ number_text size ++ codes "\n"
request_of registers (Stores address bytes) =
    codes "write" ++ number_text address ++ number_text (length bytes) ++ codes " 0x" ++ encode_lower bytes ++ codes "\n"

-- the requests for accesses, in order
abbrev pub requests_of : (registers : ℕ) → List Access → List ℕ
requests_of registers accesses = flat_map (request_of registers) accesses
