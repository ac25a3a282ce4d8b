-- A driver's setup determines the registers of the receive filter, because tables with the same bits are the same.
use Rattle.std.proofs.Common.{suc, zero, ◌≡◌, ◌<◌, ◌+◌, ◌*◌, ◌/◌, ◌%◌, ◌^◌, ◌↔◌, ◌⊎◌, inl, inr, ℕ, List, arith, refl, sym, ap, ◌∙◌}
use Rattle.std.specs.Prelude.{slice_index}
use Rattle.std.proofs.Math.Nat.{div-div-eq-div-mul, div-one, mul_comm, pow-suc}
use Rattle.std.proofs.lemmas.Grind.{same_number_lists}
use Rattle.registers.specs.Bits.{HasBit}
use Rattle.rx_filter.specs.Registers.{FilterRegisters}
use Rattle.rx_filter.specs.NumberTables.{HasNumbers}
use Rattle.bring_up.specs.ConfiguredAdapters.{AreWords, SetupsAgree}

half-bit : (w place : ℕ) → HasBit (w / 2) place ↔ HasBit w (suc place)
half-bit w place =
    let same : w / 2 / 2 ^ place ≡ w / 2 ^ suc place =
    div-div-eq-div-mul w 2 (2 ^ place) ∙ ap (λ (n : ℕ). w / n) (mul_comm 2 (2 ^ place) ∙ sym (pow-suc 2 place)) in
    (λ here. ap (λ (n : ℕ). n % 2) (sym same) ∙ here, λ there. ap (λ (n : ℕ). n % 2) same ∙ there)

lowest : (w v : ℕ) → (HasBit w 0 ↔ HasBit v 0) → w % 2 ≡ v % 2
lowest w v same =
    let first = λ (n : ℕ). ap (λ (k : ℕ). k % 2) (div-one n) in
    elim (zero-or-one (w % 2) (omega arith)) [
      | inr one ↦ one ∙ sym (sym (first v) ∙ same.0 (first w ∙ one))
      | inl none ↦ elim (zero-or-one (v % 2) (omega arith)) [
        | inl neither ↦ none ∙ sym neither
        | inr one ↦ let other : w % 2 ≡ 1 = sym (first w) ∙ same.1 (first v ∙ one) in absurd (omega (arith, none, other))
      ]
    ]
  where
    zero-or-one : (n : ℕ) → n < 2 → (n ≡ 0) ⊎ (n ≡ 1)
    zero-or-one zero few = inl refl
    zero-or-one (suc n) few = inr (omega (arith, few))

pub same-word : (n w v : ℕ) → w < 2 ^ n → v < 2 ^ n → ((place : ℕ) → place < n → HasBit w place ↔ HasBit v place) → w ≡ v
same-word zero w v w_small v_small same = omega (arith, w_small, v_small)
same-word (suc n) w v w_small v_small same =
    let halves : w / 2 ≡ v / 2 = same-word n (w / 2) (v / 2) (omega (arith, w_small)) (omega (arith, v_small))
    (λ place below.
    let up = half-bit w place in
    let down = half-bit v place in
    let there = same (suc place) (omega (arith, below)) in
    (λ here. down.1 (there.0 (up.0 here)), λ here. up.1 (there.1 (down.0 here)))) in
    let low = lowest w v (same 0 (omega arith)) in
    omega (arith, halves, low)

pub same-table : (a b numbers : List ℕ) → AreWords a → AreWords b → HasNumbers a numbers → HasNumbers b numbers → a ≡ b
same-table a b numbers words_a words_b has_a has_b =
    let long_a = has_a.words in
    let long_b = has_b.words in
    same_number_lists a b (omega (arith, long_a, long_b)) (λ k below.
    same-word 32 _ _ (words_a k 0 below) (words_b k 0 (omega (arith, below, long_a, long_b))) (λ place few.
    let number = 32 * k + place in
    let word : number / 32 ≡ k = omega (arith, few) in
    let bit : number % 32 ≡ place = omega (arith, few) in
    let fits : number < 4096 = omega (arith, below, long_a, few) in
    let in_a = has_a.bits number fits in
    let in_b = has_b.bits number fits in
    let at = λ (list : List ℕ). ap (λ (w : ℕ). slice_index list w / 2 ^ (number % 32) % 2) word
    ∙ ap (λ (p : ℕ). slice_index list k / 2 ^ p % 2) bit in
    (λ one. sym (at b) ∙ in_b.1 (in_a.0 (at a ∙ one)), λ one. sym (at a) ∙ in_a.1 (in_b.0 (at b ∙ one)))))

pub setups-agree : SetupsAgree
setups-agree setup a b one two =
    let vfta : b.filter.vfta ≡ a.filter.vfta =
    same-table b.filter.vfta a.filter.vfta setup.vlans two.filter.words one.filter.words two.filter.vlans one.filter.vlans in (
      same-filters a.filter b.filter
          (two.filter.address_low ∙ sym one.filter.address_low) (two.filter.address_high ∙ sym one.filter.address_high) vfta
          (two.filter.receive_control_is ∙ sym one.filter.receive_control_is) (two.filter.vlan_type ∙ sym one.filter.vlan_type),
      two.allocation ∙ sym one.allocation,
    )
  where
    same-filters : (a b : FilterRegisters) → b.ral ≡ a.ral → b.rah ≡ a.rah → b.vfta ≡ a.vfta → b.rctl ≡ a.rctl → b.vet ≡ a.vet
        → b ≡ record a { mta = b.mta }
    same-filters a b ral rah vfta rctl vet = rw (← ral, ← rah, ← vfta, ← rctl, ← vet) refl
