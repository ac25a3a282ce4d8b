-- Lemmas about areas that are apart or inside one another, and about what a store changes. Other crates use these lemmas, too.
use Rattle.std.proofs.Common.{inl, inr, ℕ, List, length, arith}
use Rattle.dma_memory.specs.HostMemory.{with_bytes, LiesIn}
use Rattle.dma_memory.specs.Areas.{Area, area_at, AreApart, IsInside, ChangesOnly}
use Rattle.dma_memory.specs.Laws.{bytes_at-elsewhere, length-with_bytes}

pub apart-sym : (a b : Area) → AreApart a b → AreApart b a
apart-sym a b (inl before) = inr before
apart-sym a b (inr behind) = inl behind

pub apart-inside : (inner outer other : Area) → IsInside inner outer → AreApart outer other → AreApart inner other
apart-inside inner outer other inside (inl before) = inl (omega (arith, inside.to))
apart-inside inner outer other inside (inr behind) = inr (omega (arith, inside.from))

pub inside-apart : (other inner outer : Area) → IsInside inner outer → AreApart other outer → AreApart other inner
inside-apart other inner outer inside (inl before) = inl (omega (arith, inside.from))
inside-apart other inner outer inside (inr behind) = inr (omega (arith, inside.to))

-- If an area is inside memory, each area inside it is inside memory, too.
pub lies-inside : (memory : List ℕ) (inner outer : Area) → IsInside inner outer → LiesIn memory outer.address outer.size
    → LiesIn memory inner.address inner.size
lies-inside memory inner outer inside lies = omega (arith, inside.from, inside.to)

-- A store inside memory changes at most the bytes that it writes, and doesn't change the size.
pub changes_only_stored : (memory bytes : List ℕ) (address : ℕ) → LiesIn memory address (length bytes)
    → ChangesOnly memory (with_bytes memory address bytes) (area_at address (length bytes))
changes_only_stored memory bytes address lies = record {
  size = length-with_bytes memory bytes address lies;
  others = λ other apart. bytes_at-elsewhere memory bytes address other.address other.size lies apart;
}
