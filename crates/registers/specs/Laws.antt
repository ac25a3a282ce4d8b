-- Lemmas about the bits of a register. Other crates use these lemmas, too.
use Rattle.std.proofs.Common.{◌≡◌, ◌<◌, ◌^◌, ◌*◌, ◌-◌, ◌↔◌, ℕ, zero, suc, min, IsTrue, ◌==◌, bit_and, bit_or, refl, sym, ◌∙◌, ap, subst}
use Rattle.std.proofs.Common.{inl, inr, arith}
use Rattle.std.specs.Int.{bit_at, trailing_zeros, w32}
use Rattle.std.proofs.lemmas.Bool.{cases_eq, cases_lt, eqb-true, eq-eqb}
use Rattle.std.proofs.lemmas.Bool.Decides.{same_from_decides}
use Rattle.std.proofs.lemmas.Nat.{pow_pos, and_le_l}
use Rattle.std.proofs.lemmas.Nat.Bits.{and_pow, bit_at_and, bit_at_or, bit_at_not, bit_at-lt, bit_at-zero, bit_at_above}
use Rattle.std.proofs.lemmas.Nat.Bits.{bit_at-trailing_zeros, same_from_bits}
use Rattle.registers.specs.Bits.{HasBit, is_set, union, intersection, difference, IsSubset, UnionByPlaces, IntersectionByPlaces}
use Rattle.registers.specs.Bits.{DifferenceByPlaces, MeetByPlaces, SubsetByPlaces, EmptyByPlaces, SameByPlaces}

bit_of_product : (bit power : ℕ) → bit < 2 → 0 < power → bit * power ≡ power → bit ≡ 1
bit_of_product zero power below positive same = absurd (omega arith)
bit_of_product (suc zero) power below positive same = refl
bit_of_product (suc (suc bit)) power below positive same = absurd (omega arith)

-- A word contains a flag of one bit if and only if this bit of the word is 1.
pub contains_bit : (value place : ℕ) → IsTrue (bit_and value (2 ^ place) == 2 ^ place) ↔ HasBit value place
contains_bit value place =
    let product : bit_and value (2 ^ place) ≡ bit_at value place * 2 ^ place = and_pow value place in (
      (λ contained. bit_of_product (bit_at value place) (2 ^ place) (bit_at-lt value place) (pow_pos place) (sym product
          ∙ eqb-true _ _ contained)),
      (λ set. eq-eqb _ _ (product ∙ ap (λ bit. bit * 2 ^ place) set ∙ omega arith)),
    )

pub contains_is_set : (value place : ℕ) → (bit_and value (2 ^ place) == 2 ^ place) ≡ is_set value place
contains_is_set value place = same_from_decides {P = HasBit value place} _ _ (contains_bit value place) (eqb-true _ _, eq-eqb _ _)

pub HasBit-union : UnionByPlaces
HasBit-union a b place =
    let bits = bit_at_or a b place in
    let below_a = bit_at-lt a place in
    let below_b = bit_at-lt b place in (
      (λ set. elim (cases_eq (bit_at a place) 1) [ inl in_a ↦ inl in_a | inr not_a ↦ inr (omega arith) ]),
      (λ either. elim either [ inl in_a ↦ omega arith | inr in_b ↦ omega arith ]),
    )

pub HasBit-intersection : IntersectionByPlaces
HasBit-intersection a b place =
    let bits = bit_at_and a b place in
    let below_a = bit_at-lt a place in
    let below_b = bit_at-lt b place in (
      (λ set. (omega arith, omega arith)),
      (λ both. omega arith),
    )

bit_at-difference : (a b place : ℕ) → b < 2 ^ 32 → place < 32 → bit_at (difference a b) place ≡ min (bit_at a place) (1 - bit_at b place)
bit_at-difference a b place fits within =
    bit_at_and a (2 ^ 32 - 1 - b) place ∙ ap (λ bit. min (bit_at a place) bit) (bit_at_not w32 b place fits within)

pub HasBit-difference : DifferenceByPlaces
HasBit-difference a b place fits_a fits_b =
    elim (cases_lt place 32) [
      | inl within ↦
          let bits = bit_at-difference a b place fits_b within in
          let below_a = bit_at-lt a place in
          let below_b = bit_at-lt b place in (
            (λ set. (omega arith, λ in_b. omega arith)),
            (λ only. elim (cases_eq (bit_at b place) 1) [
              | inl in_b ↦ absurd (only.1 in_b)
              | inr not_b ↦ let in_a : bit_at a place
                  ≡ 1 = only.0 in omega arith
            ]),
          )
      | inr beyond ↦
          let none : bit_at a place ≡ 0 = bit_at_above a 32 place fits_a beyond in
          let bits = bit_at_and a (2 ^ 32 - 1 - b) place in (
            (λ set. absurd (omega arith)),
            (λ only. let in_a : bit_at a place ≡ 1 = only.0 in absurd (omega arith)),
          )
    ]

pub HasBit-zero : EmptyByPlaces
HasBit-zero place set = let none = bit_at-zero place in omega arith

pub Meet-places : MeetByPlaces
Meet-places a b fits = (
  (λ meet.
      let below : bit_and a b < 2 ^ 32 = omega (arith, and_le_l a b) in
      let lowest = bit_at-trailing_zeros w32 (bit_and a b) meet below in
      let place = trailing_zeros w32 (bit_and a b) in
      let both = (HasBit-intersection a b place).0 lowest.1 in
      (place, both.0, both.1)),
  (λ common.
      let set : HasBit (bit_and a b) common.0 = (HasBit-intersection a b common.0).1 (common.1, common.2) in
      elim (cases_eq (bit_and a b) 0) [
        | inl nothing ↦ absurd (HasBit-zero common.0 (subst (λ (n : ℕ). HasBit n common.0) nothing set))
        | inr something ↦ omega arith
      ]),
)

pub IsSubset-places : SubsetByPlaces
IsSubset-places a b = (
  (λ subset place in_a.
      let bits = bit_at_and a b place in
      let same : bit_at (bit_and a b) place ≡ bit_at a place = ap (λ n. bit_at n place) subset in
      let below_b = bit_at-lt b place in
      let in_a' : bit_at a place ≡ 1 = in_a in
      omega arith),
  (λ within. same_from_bits (bit_and a b) a (λ place.
      let bits = bit_at_and a b place in
      let below_a = bit_at-lt a place in
      elim (cases_eq (bit_at a place) 1) [
        | inl in_a ↦ let in_b : bit_at b place ≡ 1 = within place in_a in omega arith
        | inr not_a ↦ omega arith
      ])),
)

pub same_places : SameByPlaces
same_places a b alike = same_from_bits a b (λ place.
    let below_a = bit_at-lt a place in
    let below_b = bit_at-lt b place in
    elim (cases_eq (bit_at a place) 1) [
      | inl in_a ↦ let in_b : bit_at b place ≡ 1 = (alike place).0 in_a in omega arith
      | inr not_a ↦ elim (cases_eq (bit_at b place) 1) [
        | inl in_b ↦ absurd (not_a ((alike place).1 in_b))
        | inr not_b ↦ omega arith
      ]
    ])

pub IsSubset-union : (a b set : ℕ) → IsSubset a set → IsSubset b set → IsSubset (union a b) set
IsSubset-union a b set a_within b_within = same_from_bits (bit_and (bit_or a b) set) (bit_or a b) (λ place.
    let whole = bit_at_and (bit_or a b) set place in
    let either = bit_at_or a b place in
    let of_a = bit_at_and a set place in
    let of_b = bit_at_and b set place in
    let same_a : bit_at (bit_and a set) place ≡ bit_at a place = ap (λ n. bit_at n place) a_within in
    let same_b : bit_at (bit_and b set) place ≡ bit_at b place = ap (λ n. bit_at n place) b_within in
    omega arith)

pub IsSubset-intersection : (a b set : ℕ) → IsSubset a set → IsSubset (intersection a b) set
IsSubset-intersection a b set within = same_from_bits (bit_and (bit_and a b) set) (bit_and a b) (λ place.
    let whole = bit_at_and (bit_and a b) set place in
    let both = bit_at_and a b place in
    let of_a = bit_at_and a set place in
    let same_a : bit_at (bit_and a set) place ≡ bit_at a place = ap (λ n. bit_at n place) within in
    omega arith)

pub IsSubset-masked : (value set : ℕ) → IsSubset (bit_and value set) set
IsSubset-masked value set = same_from_bits (bit_and (bit_and value set) set) (bit_and value set) (λ place.
    let whole = bit_at_and (bit_and value set) set place in
    let both = bit_at_and value set place in
    omega arith)

-- Rules that show that a set is a subset of another.
pub ruleset subsets = (IsSubset-union, IsSubset-intersection, IsSubset-masked)
