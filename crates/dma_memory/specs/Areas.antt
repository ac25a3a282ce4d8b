-- Areas of a host's memory (our choice).
use Rattle.std.specs.Prelude.{◌≡◌, ◌≤◌, ◌+◌, ◌⊎◌, ℕ, List, length, All, AllPairs}
use Rattle.dma_memory.specs.HostMemory.{bytes_at, LiesIn}

-- A range of bytes in a host's memory.
pub record Area : Type 0 where
  -- The address of the first byte.
  pub address : ℕ
  -- The number of bytes.
  pub size : ℕ

-- The area of this address and size.
abbrev pub area_at : ℕ → ℕ → Area
area_at address size = record { address = address; size = size }

-- The number of bytes of a descriptor ("3.2.3 Receive Descriptor Format", "3.3.3 Legacy Transmit Descriptor Format" of Intel's manual).
abbrev pub descriptor_bytes : ℕ
descriptor_bytes = 16

-- The area of a descriptor at this address.
abbrev pub descriptor_area : ℕ → Area
descriptor_area address = area_at address descriptor_bytes

-- The bytes of an area.
abbrev pub bytes_in : List ℕ → Area → List ℕ
bytes_in memory area = bytes_at memory area.address area.size

-- One of two areas ends at or before the start of the other.
abbrev pub AreApart : Area → Area → Type 0
AreApart a b = (a.address + a.size ≤ b.address) ⊎ (b.address + b.size ≤ a.address)

-- The area `inner` begins and ends within `outer`.
pub record IsInside (inner outer : Area) : Type 0 where
  -- The area `inner` doesn't begin before `outer`.
  pub from : outer.address ≤ inner.address
  -- The area `inner` doesn't end after `outer`.
  pub to : inner.address + inner.size ≤ outer.address + outer.size

-- These areas are inside memory, and any two of them are apart.
pub record AreSeparate (memory : List ℕ) (areas : List Area) : Type 0 where
  -- Each area is inside memory.
  pub lie : All (λ area. LiesIn memory area.address area.size) areas
  -- Any two areas are apart.
  pub apart : AllPairs AreApart areas

-- The two memories have the same size, and differ at most in this area.
pub record ChangesOnly (memory memory' : List ℕ) (area : Area) : Type 0 where
  -- The size of memory doesn't change.
  pub size : length memory' ≡ length memory
  -- Every area that is apart from this area has the same bytes in both memories.
  pub others : (other : Area) → AreApart area other → bytes_in memory' other ≡ bytes_in memory other
