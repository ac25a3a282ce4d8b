-- Laws of `LiesIn`, `bytes_at` and `with_bytes` for all memories: which ranges are inside, and what stores change. Stores are inside
-- memory, except that a store of no bytes may have any address.
use Rattle.std.specs.Prelude.{◌≡◌, ◌<◌, ◌+◌, ◌↔◌, ◌++◌, ℕ, List, [], length}
use Rattle.dma_memory.specs.HostMemory.{bytes_at, with_bytes, LiesIn}
use Rattle.dma_memory.specs.Areas.{Area, area_at, bytes_in, AreApart}

-- A range of bytes is inside a memory if and only if the address of each byte in the range is below the memory's size.
abbrev pub LieWhereEachLies : Type 0
LieWhereEachLies = (memory : List ℕ) (address n : ℕ) → LiesIn memory address n ↔ ((i : ℕ) → i < n → address + i < length memory)

-- A store doesn't change the size of memory.
abbrev pub StoreKeepsSize : Type 0
StoreKeepsSize = (memory bytes : List ℕ) (address : ℕ) → LiesIn memory address (length bytes)
    → length (with_bytes memory address bytes) ≡ length memory

-- A load of the stored number of bytes at the address of a store returns the stored bytes.
abbrev pub StoredIsLoaded : Type 0
StoredIsLoaded = (memory bytes : List ℕ) (address : ℕ) → LiesIn memory address (length bytes)
    → bytes_at (with_bytes memory address bytes) address (length bytes) ≡ bytes

-- A store doesn't change the bytes of an area that is apart from the stored bytes.
abbrev pub OthersStay : Type 0
OthersStay = (memory bytes : List ℕ) (address : ℕ) (other : Area) → LiesIn memory address (length bytes)
    → AreApart (area_at address (length bytes)) other → bytes_in (with_bytes memory address bytes) other ≡ bytes_in memory other

-- Inside memory, two stores to adjacent ranges have the same result as one store of the joined bytes.
abbrev pub AdjacentStoresAreOne : Type 0
AdjacentStoresAreOne = (memory first second : List ℕ) (address : ℕ) → LiesIn memory address (length (first ++ second))
    → with_bytes (with_bytes memory address first) (address + length first) second ≡ with_bytes memory address (first ++ second)

-- A store of no bytes changes nothing, whatever its address.
abbrev pub StoreOfNoneStays : Type 0
StoreOfNoneStays = (memory : List ℕ) (address : ℕ) → with_bytes memory address [] ≡ memory
