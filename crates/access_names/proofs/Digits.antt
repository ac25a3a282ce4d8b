-- Digits that are added in front of a text.
use Rattle.std.proofs.Common.{◌≡◌, ◌-◌, ◌++◌, ◌/◌, ◌%◌, ◌<◌, ◌≤◌, ◌∙◌, ◌==◌, ℕ, Bool, List, [], ◌∷◌, ap, append_assoc, arith, false}
use Rattle.std.proofs.Common.{if◌then◌else◌, refl, suc, sym, true, zero}
use Rattle.std.proofs.lemmas.Bool.Decides.{nat_tests}
use Rattle.std.specs.Fmt.{digit_glyph, digits, digits_onto}

abbrev onto : ℕ → ℕ → List ℕ → List ℕ
onto count number after = digits_onto count 16 false number after

abbrev last_digit : ℕ → ℕ
last_digit number = digit_glyph false (number % 16)

in_both : (is : Bool) (count number : ℕ) (after : List ℕ)
    → onto count (number / 16) (last_digit number ∷ after) ≡ onto count (number / 16) (last_digit number ∷ []) ++ after
    → (if is then last_digit number ∷ after else onto count (number / 16) (last_digit number ∷ after))
    ≡ (if is then last_digit number ∷ [] else onto count (number / 16) (last_digit number ∷ [])) ++ after
in_both true count number after same = refl
in_both false count number after same = same

added : (count number : ℕ) (after : List ℕ) → onto count number after ≡ onto count number [] ++ after
added zero number after = refl
added (suc count) number after =
    in_both (number / 16 == 0) count number after
    (added count (number / 16) (last_digit number ∷ after)
    ∙ sym (append_assoc (onto count (number / 16) []) (last_digit number ∷ []) after)
    ∙ ap (λ (l : List ℕ). l ++ after) (sym (added count (number / 16) (last_digit number ∷ []))))

all_are : (number : ℕ) → onto 64 number [] ≡ digits 16 false number
unfolding digits
all_are number = refl

pub all_digits : (number : ℕ) (after : List ℕ) → onto 64 number after ≡ digits 16 false number ++ after
all_digits number after = added 64 number after ∙ ap (λ (l : List ℕ). l ++ after) (all_are number)

is_some : (n : ℕ) → 0 < n → (n == 0) ≡ false
is_some n some = grind (arith, nat_tests)

is_none : (n : ℕ) → n ≡ 0 → (n == 0) ≡ true
is_none n none = grind (arith, nat_tests)

if_false : (is : Bool) (one other : List ℕ) → is ≡ false → (if is then one else other) ≡ other
if_false true one other same = absurd (cc)
if_false false one other same = refl

if_true : (is : Bool) (one other : List ℕ) → is ≡ true → (if is then one else other) ≡ one
if_true true one other same = refl
if_true false one other same = absurd (cc)

pub one_more : (count number : ℕ) (after : List ℕ) → 0 < count → 16 ≤ number
    → onto (count - 1) (number / 16) (last_digit number ∷ after) ≡ onto count number after
one_more zero number after some big = absurd (omega arith)
one_more (suc count) number after some big =
    let e : suc count - 1 ≡ count = omega arith in
    ap (λ (left : ℕ). onto left (number / 16) (last_digit number ∷ after)) e
    ∙ sym (if_false (number / 16 == 0) (last_digit number ∷ after) (onto count (number / 16) (last_digit number ∷ after))
    (is_some (number / 16) (omega arith)))

same_both : (is : Bool) (text : List ℕ) → text ≡ (if is then text else text)
same_both true text = refl
same_both false text = refl

pub first_digit : (count number : ℕ) (after : List ℕ) → 0 < count → (1 < count → number < 16)
    → last_digit number ∷ after ≡ onto count number after
first_digit zero number after some few = absurd (omega arith)
first_digit (suc zero) number after some few = same_both (number / 16 == 0) (last_digit number ∷ after)
first_digit (suc (suc count)) number after some few =
    let small : number < 16 = few (omega arith) in
    sym (if_true (number / 16 == 0) (last_digit number ∷ after) (onto (suc count) (number / 16) (last_digit number ∷ after))
    (is_none (number / 16) (omega (arith, small))))
