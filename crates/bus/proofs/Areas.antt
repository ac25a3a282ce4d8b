-- Separate areas: in a memory of the same size, without one of the areas, or with a shorter area in place of one.
use Rattle.std.proofs.Common.{◌≡◌, ◌≤◌, ◌++◌, ◌∷◌, ℕ, List, length, arith}
use Rattle.dma_memory.specs.Areas.{AreApart, AreSeparate, Area, IsInside}
use Rattle.dma_memory.specs.AreaLaws.{apart-inside, inside-apart, lies-inside}
use Rattle.dma_memory.specs.HostMemory.{LiesIn}
use Rattle.bus.proofs.Lists.{all-replaced, all-without, all-weaker, pairs-replaced, pairs-without}

pub separate-same : (memory memory' : List ℕ) (areas areas' : List Area) → length memory' ≡ length memory → areas' ≡ areas
    → AreSeparate memory areas → AreSeparate memory' areas'
separate-same memory memory' areas areas' size same separate = rw same (record {
  lie = all-weaker (λ area. LiesIn memory area.address area.size) (λ area. LiesIn memory' area.address area.size) areas
      (λ area lies. rw size lies) separate.lie;
  apart = separate.apart;
})

pub separate-without : (memory : List ℕ) (front : List Area) (area : Area) (behind : List Area)
    → AreSeparate memory (front ++ area ∷ behind) → AreSeparate memory (front ++ behind)
separate-without memory front area behind separate = record {
  lie = all-without (λ a. LiesIn memory a.address a.size) front area behind separate.lie;
  apart = pairs-without AreApart front area behind separate.apart;
}

pub separate-shorter : (memory : List ℕ) (front : List Area) (address size shorter : ℕ) (behind : List Area) → shorter ≤ size
    → AreSeparate memory (front ++ record { address = address; size = size } ∷ behind)
    → AreSeparate memory (front ++ record { address = address; size = shorter } ∷ behind)
separate-shorter memory front address size shorter behind fits separate =
    let whole : Area = record { address = address; size = size } in
    let part : Area = record { address = address; size = shorter } in
    let inside : IsInside part whole = record { from = omega arith; to = omega (arith, fits) } in
    record {
      lie = all-replaced (λ a. LiesIn memory a.address a.size) front whole part behind (lies-inside memory part whole inside) separate.lie;
      apart = pairs-replaced AreApart front whole part behind (λ other apart. inside-apart other part whole inside apart)
          (λ other apart. apart-inside part whole other inside apart) separate.apart;
    }
