-- A host's memory is a list of bytes, and an address is the index of a byte in this list (our choice; the adapter reads and writes memory
-- as bus master, "3.2 Packet Reception" and "3.3 Packet Transmission" of Intel's manual).
use Rattle.std.specs.Prelude.{◌≤◌, ◌+◌, ◌-◌, ◌++◌, ℕ, List, length, take, drop}

-- The n bytes from an address on, or fewer if memory ends earlier.
abbrev pub bytes_at : List ℕ → ℕ → ℕ → List ℕ
bytes_at memory address n = take n (drop address memory)

-- The memory in which these bytes replace the bytes from the address on. If there are no bytes, memory is unchanged, whatever the address.
-- If any of the bytes are outside memory, the result is longer than memory.
abbrev pub with_bytes : List ℕ → ℕ → List ℕ → List ℕ
with_bytes memory address bytes = take address memory ++ bytes ++ drop (address + length bytes) memory

-- The memory has n bytes from the address on. A subtraction in contracts stops at 0. So an empty range is inside memory at every address.
-- Any other range is inside memory exactly if the address of its last byte is below the size.
abbrev pub LiesIn : List ℕ → ℕ → ℕ → Type 0
LiesIn memory address n = n ≤ length memory - address
