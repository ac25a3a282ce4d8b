-- The number that digits spell, digit by digit, and the texts for which `number_in_radix` returns `None`.
use Rattle.std.proofs.Common.{◌≡◌, ◌<◌, ◌^◌, ℕ, Bool, true, false, List, [], ◌∷◌, Option, Some, None, cond, length, refl, sym}
use Rattle.std.proofs.Common.{ap, arith, get_or, subst, suc, take, zero, ◌∙◌, ◌+◌, ◌*◌, ◌≤◌}
use Rattle.std.proofs.lemmas.Int.Digits.{digits_value_more}
use Rattle.std.proofs.lemmas.List.{take_all}
use Rattle.std.proofs.lemmas.Str.Parse.{digits_value-take-le}
use Rattle.std.specs.Bool.{Decides}
use Rattle.std.specs.Prelude.{◌==◌}
use Rattle.std.specs.List.{list_all}
use Rattle.std.specs.Option.{SomeIff}
use Rattle.std.specs.Str.Parse.{AllDigits, IsNumeral, digits_value}
use Rattle.std.specs.Char.{digit_value}
use Rattle.std.proofs.lemmas.Bool.Decides.{Decides-and, Decides-ltb, nat_tests}
use Rattle.text.specs.Numbers.{is_digit, is_number, number_in}

pub empty_yes : (n m : ℕ) → (n == 0) ≡ true → n ≡ m → m ≡ 0
empty_yes n m e same = grind (arith, nat_tests)

pub empty_no : (n m : ℕ) → (n == 0) ≡ false → n ≡ m → 0 < m
empty_no n m e same = grind (arith, nat_tests)

digits : (radix : ℕ) (text : List ℕ) → Decides (list_all (is_digit radix) text) (AllDigits radix text)
digits radix [] = (λ yes. tt, λ all. refl)
digits radix (c ∷ cs) =
    Decides-and (is_digit radix c) (list_all (is_digit radix) cs) (Decides-ltb (digit_value c) radix) (digits radix cs)

abbrev Holds : (radix : ℕ) (text : List ℕ) → Type 0
Holds radix text = IsNumeral radix text × (digits_value radix text < 2 ^ 64)

number : (radix : ℕ) (text : List ℕ) → Decides (is_number radix 64 text) (Holds radix text)
number radix text =
    Decides-and _ _ (Decides-and _ _ (Decides-ltb 0 (length text)) (digits radix text)) (Decides-ltb (digits_value radix text) (2 ^ 64))

none-number : (b : Bool) (n : ℕ) → ¬ (b ≡ true) → None ≡ cond b (Some n) None
none-number true n h = absurd (h refl)
none-number false n h = refl

pub same-number : (radix : ℕ) (text : List ℕ) (found : Option ℕ)
    → SomeIff found (Holds radix text) (digits_value radix text) → found ≡ number_in radix 64 text
same-number radix text (Some n) h =
    ap Some (h.1) ∙ sym (ap (λ b. cond b (Some (digits_value radix text)) None) ((number radix text).1 h.0))
same-number radix text None h =
    none-number (is_number radix 64 text) (digits_value radix text) (λ yes. h ((number radix text).0 yes))

pub no_digits : (radix : ℕ) (text : List ℕ) → length text ≡ 0 → None ≡ number_in radix 64 text
no_digits radix text none = same-number radix text None (λ h. absurd (omega (arith, none, h.0.0)))

digit_there : (radix : ℕ) (text : List ℕ) (i : ℕ) → AllDigits radix text → i < length text → digit_value (get_or text i 0) < radix
digit_there radix [] i all below = absurd (omega (arith, below))
digit_there radix (c ∷ cs) zero all below = all.0
digit_there radix (c ∷ cs) (suc i) all below = digit_there radix cs i all.1 (omega (arith, below))

pub bad_digit : (radix : ℕ) (text : List ℕ) (i : ℕ) → i < length text → ¬ (digit_value (get_or text i 0) < radix)
    → None ≡ number_in radix 64 text
bad_digit radix text i below bad = same-number radix text None (λ h. bad (digit_there radix text i h.0.1 below))

pub overflows : (radix : ℕ) (text : List ℕ) (i value : ℕ) → 2 ≤ radix → i < length text → value ≡ digits_value radix (take i text)
    → 2 ^ 64 ≤ value * radix + digit_value (get_or text i 0) → None ≡ number_in radix 64 text
overflows radix text i value low below is large =
    let more : digits_value radix (take (i + 1) text) ≡ value * radix + digit_value (get_or text i 0) = digits_value_more radix text i below
    ∙ ap (λ (n : ℕ). n * radix + digit_value (get_or text i 0)) (sym is) in
    let least = digits_value-take-le radix text (i + 1) (omega (arith, low)) in
    same-number radix text None (λ h. absurd (omega (arith, more, large, least, h.1)))

digits_next : (radix : ℕ) (text : List ℕ) (i : ℕ) → AllDigits radix (take i text) → i < length text → digit_value (get_or text i 0) < radix
    → AllDigits radix (take (suc i) text)
digits_next radix [] i all below digit = absurd (omega (arith, below))
digits_next radix (c ∷ cs) zero all below digit = (digit, tt)
digits_next radix (c ∷ cs) (suc i) all below digit = (all.0, digits_next radix cs i all.1 (omega (arith, below)) digit)

pub digits_more : (radix : ℕ) (text : List ℕ) (i : ℕ) → AllDigits radix (take i text) → i < length text
    → digit_value (get_or text i 0) < radix → AllDigits radix (take (i + 1) text)
digits_more radix text i all below digit =
    let next : suc i ≡ i + 1 = omega arith in
    subst (λ (k : ℕ). AllDigits radix (take k text)) next (digits_next radix text i all below digit)

pub value_more : (radix : ℕ) (text : List ℕ) (i value digit : ℕ) → i < length text → value ≡ digits_value radix (take i text)
    → digit ≡ digit_value (get_or text i 0) → value * radix + digit ≡ digits_value radix (take (i + 1) text)
value_more radix text i value digit below is digit_is =
    ap (λ (n : ℕ). n * radix + digit) is ∙ ap (λ (n : ℕ). digits_value radix (take i text) * radix + n) digit_is
    ∙ sym (digits_value_more radix text i below)

pub all_digits : (radix : ℕ) (text : List ℕ) (i value : ℕ) → length text ≤ i → 0 < length text → AllDigits radix (take i text)
    → value ≡ digits_value radix (take i text) → value < 2 ^ 64 → Some value ≡ number_in radix 64 text
all_digits radix text i value end some all is small =
    let whole : take i text ≡ text = take_all i text end in
    let same : value ≡ digits_value radix text = is ∙ ap (digits_value radix) whole in
    same-number radix text (Some value) (((some, subst (AllDigits radix) whole all), omega (arith, sym same, small)), same)
