use Rattle.std.proofs.Common.{◌≡◌, ◌==◌, ◌↔◌, ◌/◌, ◌%◌, ◌^◌, ℕ, Bool, true, false, IsTrue, bit_and, refl, sym, subst}
use Rattle.std.proofs.lemmas.Bool.{eq-eqb, eqb-true, false≢true}
use Rattle.registers.specs.Bits.{HasBit}
use Rattle.registers.specs.Laws.{HasBit-intersection}
use Rattle.adapter_model.proofs.adapter.asks_for_reset.Goals as goal

same_test : (test : Bool) (number : ℕ) → IsTrue test ↔ (number ≡ 1) → test ≡ (number == 1)
same_test true number told = sym (eq-eqb _ _ (told.0 refl))
same_test false number told = elim (number == 1) as (λ b. (IsTrue b → number ≡ 1)
    → false ≡ b) [ true ↦ λ is. absurd (false≢true (told.1 (is refl))) | false ↦ λ is. refl ] (eqb-true number 1)

reset_kept : (value : ℕ) → HasBit (bit_and value 0x44000061) 26 ↔ HasBit value 26
reset_kept value =
    let both = HasBit-intersection value 0x44000061 26 in ((λ kept. (both.0 kept).0), (λ set. both.1 (set, refl)))

pub returns : goal.returns
returns c =
    let told = c.resets.ensures in
    let reset : (kept : ℕ) → kept ≡ bit_and c.args.value 0x44000061 → HasBit kept 26
    ↔ HasBit c.args.value 26 = λ kept same. subst (λ (n : ℕ). HasBit n 26
    ↔ HasBit c.args.value 26) (sym same) (reset_kept c.args.value) in
    let both = reset _ c.written.ensures in
    same_test c.resets.result (c.args.value / 2 ^ 26 % 2) ((λ is. both.0 (told.0 is)), (λ set. told.1 (both.1 set)))
