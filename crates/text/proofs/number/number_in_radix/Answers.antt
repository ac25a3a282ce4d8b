use Rattle.std.proofs.Common.{◌≡◌, ◌≤◌, ◌<◌, ◌+◌, ◌*◌, ◌^◌, ℕ, List, None, Some, arith, get_or, length, refl, rules, subst, sym, ◌∙◌}
use Rattle.std.specs.Char.{digit_value}
use Rattle.text.specs.Numbers.{number_in}
use Rattle.text.proofs.Numbers.{all_digits, digits_more, empty_no, empty_yes, no_digits, value_more}
use Rattle.text.proofs.number.number_in_radix.Goals as goal

pub loop-byte-preserved : goal.loop-byte-preserved
loop-byte-preserved c =
    let bytes = c.as_bytes-bytes.result.now in
    let i = c.loop-byte.byte-index in
    let is : c.in_ok-digit.digit ≡ digit_value (get_or bytes i 0) = search rules in
    let digit : digit_value (get_or bytes i 0) < c.args.radix = search rules in
    let sum : c.in_ok-value.value ≡ c.loop-byte.value * c.args.radix + c.in_ok-digit.digit = search rules in
    let small : c.in_ok-value.value < 2 ^ 64 = omega (arith, c.in_ok-value.ensures.0, c.in_ok-value.ensures.1) in
    record {
      all = digits_more c.args.radix bytes i c.loop-byte.invariant.all c.loop-byte-test.true digit;
      value = sum
          ∙ value_more c.args.radix bytes i c.loop-byte.value c.in_ok-digit.digit c.loop-byte-test.true c.loop-byte.invariant.value is;
      small = small;
    }

pub returns-then-is_empty : goal.returns-then-is_empty
returns-then-is_empty c =
    let bytes = c.as_bytes-bytes.result.now in
    let none : length bytes ≡ 0 = empty_yes (length bytes) (length bytes) (sym c.is_empty.ensures ∙ c.if-is_empty.true) refl in
    subst (λ (t : List ℕ). None ≡ number_in c.args.radix 64 t) c.as_bytes-bytes.ensures.value (no_digits c.args.radix bytes none)

pub returns-else-is_empty : goal.returns-else-is_empty
returns-else-is_empty c =
    let bytes = c.as_bytes-bytes.result.now in
    let text : bytes ≡ c.args.text.now = c.as_bytes-bytes.ensures.value in
    let end : length bytes ≤ c.loop-byte.byte-index = omega (arith, c.loop-byte-test.false) in
    let some : 0 < length bytes = empty_no (length bytes) (length bytes) (sym c.is_empty.ensures ∙ c.if-is_empty.false) refl in
    subst (λ (t : List ℕ). Some c.loop-byte.value ≡ number_in c.args.radix 64 t) text
    (all_digits c.args.radix bytes c.loop-byte.byte-index c.loop-byte.value end some c.loop-byte.invariant.all c.loop-byte.invariant.value
    c.loop-byte.invariant.small)
