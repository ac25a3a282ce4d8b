-- The proof of `CountsArePlaces`.
use Rattle.std.proofs.Common.{◌≡◌, ◌≤◌, ◌<◌, inl, inr, ◌∷◌, [], ℕ, zero, suc, List, Some, refl, sym, ap, arith}
use Rattle.std.specs.Prelude.{slice_get}
use Rattle.std.proofs.lemmas.Bool.{cases_eq, cases_lt}
use Rattle.dma_memory.specs.Owners.{copies, HasOneOwner, EachOccursOnce, CountsArePlaces}
use Rattle.dma_memory.specs.OwnersLaws.{if_below, copies-cons, if_same-yes, if_same-no, if_below-yes, if_below-no, if_below-most}
use Rattle.dma_memory.specs.OwnersLaws.{below_from_if_below}

counted : (k i : ℕ) (xs : List ℕ) → slice_get xs i ≡ Some k → 0 < copies k xs
counted k i [] at = absurd (cc)
counted k zero (x ∷ xs) at = let same : k ≡ x = (cc) in omega (arith, if_same-yes k x same, copies-cons k x xs)
counted k (suc i) (x ∷ xs) at = omega (arith, counted k i xs at, copies-cons k x xs)

place : (k : ℕ) (xs : List ℕ) → 0 < copies k xs → (i : ℕ) × (slice_get xs i ≡ Some k)
place k [] some = absurd (omega arith)
place k (x ∷ xs) some =
    elim (cases_eq k x) as (λ _. (i : ℕ) × (slice_get (x ∷ xs) i ≡ Some k)) [
      | inl same ↦ (0, ap Some (sym same))
      | inr differ ↦ let later = place k xs (omega (arith, some, copies-cons k x xs, if_same-no k x differ)) in (suc later.0, later.1)
    ]

one_place : (k i j : ℕ) (xs : List ℕ) → copies k xs ≤ 1 → slice_get xs i ≡ Some k → slice_get xs j ≡ Some k → i ≡ j
one_place k i j [] most at also = absurd (cc)
one_place k zero zero (x ∷ xs) most at also = refl
one_place k zero (suc j) (x ∷ xs) most at also =
    let same : k ≡ x = (cc) in
    absurd (omega (arith, most, counted k j xs also, if_same-yes k x same, copies-cons k x xs))
one_place k (suc i) zero (x ∷ xs) most at also =
    let same : k ≡ x = (cc) in
    absurd (omega (arith, most, counted k i xs at, if_same-yes k x same, copies-cons k x xs))
one_place k (suc i) (suc j) (x ∷ xs) most at also =
    ap suc (one_place k i j xs (omega (arith, most, copies-cons k x xs)) at also)

counted_once : (k : ℕ) (xs : List ℕ) → ((i j : ℕ) → slice_get xs i ≡ Some k → slice_get xs j ≡ Some k → i ≡ j) → copies k xs ≤ 1
counted_once k [] one = omega arith
counted_once k (x ∷ xs) one =
    elim (cases_eq k x) as (λ _. copies k (x ∷ xs) ≤ 1) [
      | inl same ↦ elim (cases_lt 0 (copies k xs)) as (λ _. copies k (x ∷ xs) ≤ 1) [
        | inl more ↦ let later = place k xs more in let none = one 0 (suc later.0) (ap Some (sym same)) later.1 in absurd
            (omega (arith, none))
        | inr none ↦ omega (arith, none, if_same-yes k x same, copies-cons k x xs)
      ]
      | inr differ ↦ let rest = counted_once k xs (λ i j at also. let next = one (suc i) (suc j) at also in omega (arith, next)) in omega
          (arith, rest, if_same-no k x differ, copies-cons k x xs)
    ]

stands_once : (n : ℕ) (xs : List ℕ) → HasOneOwner n xs → EachOccursOnce n xs
stands_once n xs one = record {
  somewhere = λ k below. place k xs (omega (arith, one k, if_below-yes k n below));
  nowhere_else = λ i j k. one_place k i j xs (omega (arith, one k, if_below-most k n));
  known = λ i k at. below_from_if_below k n (omega (arith, one k, counted k i xs at));
}

one_owner : (n : ℕ) (xs : List ℕ) → EachOccursOnce n xs → HasOneOwner n xs
one_owner n xs stands k =
    elim (cases_lt k n) as (λ _. copies k xs ≡ if_below k n) [
      | inl below ↦ let at = stands.somewhere k below in omega
          (arith, counted k at.0 xs at.1, counted_once k xs (λ i j. stands.nowhere_else i j k), if_below-yes k n below)
      | inr past ↦ elim (cases_lt 0 (copies k xs)) as (λ _. copies k xs ≡ if_below k n) [
        | inl some ↦ let at = place k xs some in absurd (omega (arith, past, stands.known at.0 k at.1))
        | inr none ↦ omega (arith, none, if_below-no k n past)
      ]
    ]

pub counts-places : CountsArePlaces
counts-places n xs = (stands_once n xs, one_owner n xs)
