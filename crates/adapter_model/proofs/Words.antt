-- RAL(0) and RAH(0) after a reset: the union of a word's bits and other bits, as a sum.
use Rattle.std.proofs.Common.{◌≡◌, ℕ, ◌+◌, ◌*◌, ◌%◌, ◌<◌, ◌^◌, bit_and, bit_or, refl, sym, ◌∙◌, ap, subst, arith}
use Rattle.std.proofs.lemmas.Nat.{and_assoc, and_mask, or_shifted}
use Rattle.registers.specs.Bits.{IsSubset}
use Rattle.registers.specs.Laws.{IsSubset-union}

pub or_words : (high low : ℕ) → high < 65536 → low < 65536 → bit_or (high * 65536 % 4294967296) low ≡ high * 65536 + low
or_words high low high_fits low_fits =
    let whole : high * 65536 % 4294967296 ≡ high * 2 ^ 16 = omega arith in
    ap (λ (n : ℕ). bit_or n low) whole ∙ or_shifted high 16 low low_fits

pub or_valid : (low : ℕ) → low < 65536 → bit_or 2147483648 low ≡ 2147483648 + low
or_valid low fits = or_shifted 32768 16 low fits

pub and_address_high : (low : ℕ) → low < 65536 → bit_and (2147483648 + low) 2147549183 ≡ 2147483648 + low
and_address_high low fits =
    let masked : bit_and low 65535 ≡ low = and_mask low 16 ∙ omega arith in
    let within : IsSubset low 2147549183 = ap (λ (n : ℕ). bit_and n 2147549183) (sym masked) ∙ and_assoc 2147549183 low 65535 ∙ masked in
    let both : IsSubset (bit_or 2147483648 low) 2147549183 = IsSubset-union 2147483648 low 2147549183 refl within in
    subst (λ (n : ℕ). IsSubset n 2147549183) (or_valid low fits) both
