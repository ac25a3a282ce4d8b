-- Masks of actions, bit by bit.
use Rattle.std.proofs.Common.{◌≡◌, ◌∙◌, ◌+◌, ◌-◌, ◌*◌, ◌%◌, ◌^◌, ◌<◌, ◌≤◌, ◌&&◌, ◌||◌, ◌⊎◌}
use Rattle.std.proofs.Common.{ℕ, Bool, List, true, false, ap, arith, inl, inr, min, refl, subst, sym}
use Rattle.std.specs.Prelude.{◌==◌, bit_and, bit_or, nat_lt, not}
use Rattle.std.specs.Int.{bit_at, w64}
use Rattle.std.proofs.lemmas.Bool.{cases_eq, cases_lt, eq-eqb, eqb-true, le-ltb, lt-ltb, ne_eqb}
use Rattle.std.proofs.lemmas.Bool.{and_left, and_parts, and_right, or_cases, or_left, not_from_true, not_from_false}
use Rattle.std.proofs.lemmas.Nat.Bits.{bit_at-lt, bit_at-zero, bit_at_and, bit_at_clear_other, bit_at_clear_same, bit_at_set_other, bit_at_set_same}
use Rattle.std.proofs.lemmas.Bool.Decides.{nat_tests}
use Rattle.search.specs.declared.actions.Action.{Action}
use Rattle.search.specs.Actions.{action_in, is_of_kind, is_possible}

-- with an action

with-same : (mask number other : ℕ) → number < 64 → other ≡ number
    → is_possible (bit_or mask (1 * 2 ^ number % 2 ^ 64)) other ≡ (other == number || is_possible mask other)
with-same mask number other within is =
    ap (is_possible (bit_or mask (1 * 2 ^ number % 2 ^ 64))) is
    ∙ ap (λ b. b && bit_at (bit_or mask (1 * 2 ^ number % 2 ^ 64)) number == 1) (lt-ltb number 64 within)
    ∙ eq-eqb (bit_at (bit_or mask (1 * 2 ^ number % 2 ^ 64)) number) 1 (bit_at_set_same w64 mask number within)
    ∙ sym (or_left (other == number) (is_possible mask other) (eq-eqb other number is))

with-other : (mask number other : ℕ) → number < 64 → (other ≡ number → ⊥)
    → is_possible (bit_or mask (1 * 2 ^ number % 2 ^ 64)) other ≡ (other == number || is_possible mask other)
with-other mask number other within apart =
    ap (λ b. nat_lt other 64 && b == 1) (bit_at_set_other w64 mask number within other apart)
    ∙ sym (ap (λ b. b || is_possible mask other) (ne_eqb other number apart))

with_by : (mask number other : ℕ) → number < 64 → (other ≡ number) ⊎ (other ≡ number → ⊥)
    → is_possible (bit_or mask (1 * 2 ^ number % 2 ^ 64)) other ≡ (other == number || is_possible mask other)
with_by mask number other within (inl is) = with-same mask number other within is
with_by mask number other within (inr apart) = with-other mask number other within apart

pub possible-with : (mask number other : ℕ) → number < 64
    → is_possible (bit_or mask (1 * 2 ^ number % 2 ^ 64)) other ≡ (other == number || is_possible mask other)
possible-with mask number other within = with_by mask number other within (cases_eq other number)

-- without an action

abbrev cleared : ℕ → ℕ → ℕ
cleared mask number = bit_and mask (2 ^ 64 - 1 - 1 * 2 ^ number % 2 ^ 64)

without-same : (mask number other : ℕ) → number < 64 → other ≡ number
    → is_possible (cleared mask number) other ≡ (not (other == number) && is_possible mask other)
without-same mask number other within is =
    ap (is_possible (cleared mask number)) is
    ∙ ap (λ b. b && bit_at (cleared mask number) number == 1) (lt-ltb number 64 within)
    ∙ ap (λ n. n == 1) (bit_at_clear_same w64 mask number within)
    ∙ sym (and_left (not (other == number)) (is_possible mask other)
    (not_from_true (other == number) (eq-eqb other number is)))

without-other : (mask number other : ℕ) → number < 64 → (other ≡ number → ⊥) → other < 64
    → is_possible (cleared mask number) other ≡ (not (other == number) && is_possible mask other)
without-other mask number other within apart low =
    ap (λ b. nat_lt other 64 && b == 1) (bit_at_clear_other w64 mask number within other low apart)
    ∙ sym (ap (λ b. b && is_possible mask other) (not_from_false (other == number) (ne_eqb other number apart)))

without-past : (mask number other : ℕ) → 64 ≤ other
    → is_possible (cleared mask number) other ≡ (not (other == number) && is_possible mask other)
without-past mask number other over =
    ap (λ b. b && bit_at (cleared mask number) other == 1) (le-ltb other 64 over)
    ∙ sym (and_right (not (other == number)) (is_possible mask other)
    (ap (λ b. b && bit_at mask other == 1) (le-ltb other 64 over)))

without_by : (mask number other : ℕ) → number < 64 → (other ≡ number) ⊎ (other ≡ number → ⊥) → (other < 64) ⊎ (64 ≤ other)
    → is_possible (cleared mask number) other ≡ (not (other == number) && is_possible mask other)
without_by mask number other within (inl is) low = without-same mask number other within is
without_by mask number other within (inr apart) (inl low) = without-other mask number other within apart low
without_by mask number other within (inr apart) (inr over) = without-past mask number other over

pub possible-without : (mask number other : ℕ) → number < 64
    → is_possible (cleared mask number) other ≡ (not (other == number) && is_possible mask other)
possible-without mask number other within =
    without_by mask number other within (cases_eq other number) (cases_lt other 64)

-- in both masks

least_at : (one two : ℕ) → (one ≡ 0) ⊎ (one ≡ 1) → (two ≡ 0) ⊎ (two ≡ 1)
    → (min one two == 1) ≡ (one == 1 && two == 1)
least_at one two (inl is) (inl other) = rw (is, other) refl
least_at one two (inl is) (inr other) = rw (is, other) refl
least_at one two (inr is) (inl other) = rw (is, other) refl
least_at one two (inr is) (inr other) = rw (is, other) refl

bit_cases : (bit : ℕ) → bit < 2 → (bit < 1) ⊎ (1 ≤ bit) → (bit ≡ 0) ⊎ (bit ≡ 1)
bit_cases bit fits (inl less) = inl (omega (arith, less))
bit_cases bit fits (inr most) = inr (omega (arith, fits, most))

least_bit : (one two : ℕ) → one < 2 → two < 2 → (min one two == 1) ≡ (one == 1 && two == 1)
least_bit one two one_fits two_fits =
    least_at one two (bit_cases one one_fits (cases_lt one 1)) (bit_cases two two_fits (cases_lt two 1))

both_at : (low one two : Bool) → (low && (one && two)) ≡ ((low && one) && (low && two))
both_at true one two = refl
both_at false one two = refl

pub possible-both : (one two number : ℕ)
    → is_possible (bit_and one two) number ≡ (is_possible one number && is_possible two number)
possible-both one two number =
    ap (λ n. nat_lt number 64 && n == 1) (bit_at_and one two number)
    ∙ ap (λ b. nat_lt number 64 && b)
    (least_bit (bit_at one number) (bit_at two number) (bit_at-lt one number) (bit_at-lt two number))
    ∙ both_at (nat_lt number 64) (bit_at one number == 1) (bit_at two number == 1)

none_of_zero : (other : ℕ) → is_possible 0 other ≡ false
none_of_zero other =
    ap (λ n. nat_lt other 64 && n == 1) (bit_at-zero other) ∙ and_right (nat_lt other 64) false refl

-- from 64 on, no action is in a mask
pub none-past : (mask number : ℕ) → 64 ≤ number → is_possible mask number ≡ false
none-past mask number over = ap (λ b. b && bit_at mask number == 1) (le-ltb number 64 over)

-- the loop of `of_kind`, before action `number`
abbrev pub Kept : List Action → ℕ → ℕ → ℕ → ℕ → Type 0
Kept actions mask kind found number =
    (other : ℕ)
    → is_possible found other ≡ (nat_lt other number && (is_possible mask other && is_of_kind actions kind other))

pub kept-none : (actions : List Action) (mask kind : ℕ) → Kept actions mask kind 0 0
kept-none actions mask kind other =
    none_of_zero other ∙ sym (ap (λ b. b && (is_possible mask other && is_of_kind actions kind other)) (le-ltb other 0 (omega arith)))

one_more : (other number : ℕ) → nat_lt other (number + 1) ≡ (other == number || nat_lt other number)
one_more other number = grind (arith, nat_tests)

step-yes : (same low passes : Bool) → (same ≡ true → passes ≡ true)
    → (same || (low && passes)) ≡ ((same || low) && passes)
step-yes true low passes holds = sym (holds refl)
step-yes false low passes holds = refl

step-no : (same low passes : Bool) → (same ≡ true → passes ≡ false)
    → (low && passes) ≡ ((same || low) && passes)
step-no true low passes fails = and_right low passes (fails refl) ∙ sym (fails refl)
step-no false low passes fails = refl

pub kept-yes : (actions : List Action) (mask kind found next number : ℕ) → Kept actions mask kind found number
    → ((other : ℕ) → is_possible next other ≡ (other == number || is_possible found other))
    → (is_possible mask number && is_of_kind actions kind number) ≡ true → Kept actions mask kind next (number + 1)
kept-yes actions mask kind found next number so_far with holds other =
    let passes : Bool = is_possible mask other && is_of_kind actions kind other in
    with other ∙ ap (λ b. other == number || b) (so_far other)
    ∙ step-yes (other == number) (nat_lt other number) passes
    (λ is. ap (λ n. is_possible mask n && is_of_kind actions kind n) (eqb-true other number is) ∙ holds)
    ∙ ap (λ b. b && passes) (sym (one_more other number))

pub kept-no : (actions : List Action) (mask kind found number : ℕ) → Kept actions mask kind found number
    → (is_possible mask number && is_of_kind actions kind number) ≡ false → Kept actions mask kind found (number + 1)
kept-no actions mask kind found number so_far fails other =
    let passes : Bool = is_possible mask other && is_of_kind actions kind other in
    so_far other
    ∙ step-no (other == number) (nat_lt other number) passes
    (λ is. ap (λ n. is_possible mask n && is_of_kind actions kind n) (eqb-true other number is) ∙ fails)
    ∙ ap (λ b. b && passes) (sym (one_more other number))

pub in-without : (result mask number other : ℕ)
    → is_possible result other ≡ (not (other == number) && is_possible mask other) → is_possible result other ≡ true
    → is_possible mask other ≡ true
in-without result mask number other is there =
    (and_parts (not (other == number)) (is_possible mask other) (sym is ∙ there)).1

-- the loop of `of_groups`: one more action
more_by : (actions : List Action) (mask groups found number other : ℕ)
    → ((one : ℕ) → is_possible found one ≡ true
    → (is_possible mask one ≡ true) × (is_possible groups (action_in actions one).group ≡ true))
    → is_possible mask number ≡ true → is_possible groups (action_in actions number).group ≡ true
    → ((other == number) ≡ true) ⊎ (is_possible found other ≡ true)
    → (is_possible mask other ≡ true) × (is_possible groups (action_in actions other).group ≡ true)
more_by actions mask groups found number other so_far in_mask in_groups (inl is) =
    let same : number ≡ other = sym (eqb-true other number is) in (
      subst (λ n. is_possible mask n ≡ true) same in_mask,
      subst (λ n. is_possible groups (action_in actions n).group ≡ true) same in_groups,
    )
more_by actions mask groups found number other so_far in_mask in_groups (inr is) = so_far other is

pub grouped-more : (actions : List Action) (mask groups found next number other : ℕ)
    → ((one : ℕ) → is_possible found one ≡ true
    → (is_possible mask one ≡ true) × (is_possible groups (action_in actions one).group ≡ true))
    → is_possible mask number ≡ true → is_possible groups (action_in actions number).group ≡ true
    → is_possible next other ≡ (other == number || is_possible found other) → is_possible next other ≡ true
    → (is_possible mask other ≡ true) × (is_possible groups (action_in actions other).group ≡ true)
grouped-more actions mask groups found next number other so_far in_mask in_groups with is =
    more_by actions mask groups found number other so_far in_mask in_groups
    (or_cases (other == number) (is_possible found other) (sym with ∙ is))
