-- Buffers return to the pool, one by one: those of pieces, and those of a queue.
use Rattle.std.proofs.Common.{◌≡◌, ◌<◌, ◌+◌, ◌++◌, ◌∷◌, [], ℕ, List, None, Some, drop, slice_get, refl, sym, ap, subst, ◌∙◌, arith}
use Rattle.std.proofs.lemmas.List.{map-append}
use Rattle.dma_memory.specs.Owners.{HasNoSecondOwner, HaveSameNumbers, copies}
use Rattle.dma_memory.specs.OwnersLaws.{below_from_if_below, copies-append, copies-cons, copies-itself, copies-push, if_below-most}
use Rattle.dma_memory.specs.Numbers.{Numbers}
use Rattle.adapter.proofs.Owners.{owners-count}
use Rattle.adapter.specs.DriverState.{owners}
use Rattle.driver.specs.InsideDriver.{driver_state_of}
use Rattle.driver.specs.Parts.{buffers_in}
use Rattle.driver.specs.declared.driver.Driver.TheInside.{Inside}
use Rattle.driver.proofs.BufferQueue.{Receives, pool-inside, queue-split}
use Rattle.driver.specs.declared.parts.Part.{Part}

-- The numbers of `all` are the number `b`, those still to return, and those in the pool.
pub record Splits (all : List ℕ) (b : ℕ) (rest free : List ℕ) : Type 0 where
  pub counts : (k : ℕ) → copies k all ≡ copies k (b ∷ rest) + copies k free

-- What the pool asks for when the buffer `b` returns.
pub record CanReturn (n b : ℕ) (free : List ℕ) : Type 0 where
  pub known : b < n
  pub out : copies b free ≡ 0

pub can-return : {n : ℕ} {all : List ℕ} {b : ℕ} {rest free : List ℕ} → Splits all b rest free → HasNoSecondOwner n all → CanReturn n b free
can-return {n} {all} {b} {rest} {free} splits once =
    let one = copies-itself b rest in
    record {
      known = below_from_if_below b n (omega (arith, once b, splits.counts b, one));
      out = omega (arith, once b, splits.counts b, one, if_below-most b n);
    }

pub returned : {all : List ℕ} {b : ℕ} {rest free : List ℕ} (free' : List ℕ) → Splits all b rest free → HaveSameNumbers (b ∷ free) free'
    → HaveSameNumbers all (rest ++ free')
returned {all} {b} {rest} {free} free' splits given k =
    omega (arith, splits.counts k, given k, copies-cons k b rest, copies-cons k b free, copies-append k rest free')

pub splits-parts : (all free : List ℕ) (rest : List Part) (part : Part) {parts : List Part} → parts ≡ rest ++ part ∷ []
    → HaveSameNumbers all (buffers_in parts ++ free) → Splits all part.buffer (buffers_in rest) free
splits-parts all free rest part {parts} is same = record {
  counts = λ k.
      let numbers : buffers_in parts ≡ buffers_in rest ++ part.buffer ∷ [] = ap buffers_in is
      ∙ map-append (λ (one : Part). one.buffer) rest (part ∷ []) in
      omega (
        arith,
        same k,
        copies-append k (buffers_in parts) free,
        ap (copies k) numbers,
        copies-push k part.buffer (buffers_in rest),
        copies-cons k part.buffer (buffers_in rest),
      );
}

pub front-first : (items : List ℕ) (b : ℕ) → Some b ≡ slice_get items 0 → items ≡ b ∷ drop 1 items
front-first [] b is = absurd (cc)
front-first (x ∷ xs) b is = let same : x ≡ b = cc in ap (λ (n : ℕ). n ∷ xs) same

pub splits-queue : (all items free : List ℕ) {b : ℕ} → Some b ≡ slice_get items 0 → HaveSameNumbers all (free ++ items)
    → Splits all b (drop 1 items) free
splits-queue all items free {b} is same = record {
  counts = λ k. omega (arith, same k, copies-append k free items, ap (copies k) (front-first items b is));
}

pub none-left : (items : List ℕ) → None ≡ slice_get items 0 → items ≡ []
none-left [] is = refl
none-left (x ∷ xs) is = absurd (cc)

-- Buffers return to the pool of a driver

inside-count : (d : Inside) → Receives d → (k : ℕ) → copies k (owners (driver_state_of d)) ≡ copies k d.pool.free + copies k d.buffers.items
inside-count d receives k =
    let shown = driver_state_of d in
    omega (arith, owners-count k shown, copies-append k shown.buffers shown.staged, ap (copies k) (queue-split d receives).whole)

pub parts-out : (d : Inside) (numbers : List ℕ) → Receives d → HasNoSecondOwner d.layout.buffers (numbers ++ owners (driver_state_of d))
    → HasNoSecondOwner d.pool.buffers (numbers ++ d.pool.free)
parts-out d numbers receives once =
    subst (λ (n : ℕ). HasNoSecondOwner n (numbers ++ d.pool.free)) (sym receives.buffers)
    (λ k.
    omega (
      arith,
      once k,
      copies-append k numbers (owners (driver_state_of d)),
      inside-count d receives k,
      copies-append k numbers d.pool.free,
    ))

pub parts-inside : (d : Inside) (numbers : List ℕ) (pool : Numbers) → Receives d
    → HasNoSecondOwner d.layout.buffers (numbers ++ owners (driver_state_of d)) → HaveSameNumbers (numbers ++ d.pool.free) pool.free
    → pool.buffers ≡ d.pool.buffers → Receives (record d { pool = pool })
parts-inside d numbers pool receives once given count =
    pool-inside d pool receives count
    (λ k.
    omega (
      arith,
      once k,
      given k,
      copies-append k numbers (owners (driver_state_of d)),
      inside-count d receives k,
      copies-append k numbers d.pool.free,
      copies-append k pool.free d.buffers.items,
    ))
