-- Lemmas about the first line of a text.
use Rattle.std.proofs.Common.{◌≡◌, ◌∙◌, ◌+◌, ◌<◌, ◌==◌, ℕ, false, cond, List, [], ◌∷◌, Some, None}
use Rattle.std.proofs.Common.{length, take, drop, ap, sym, refl, arith}
use Rattle.std.proofs.lemmas.Bool.Decides.{nat_tests}
use Rattle.std.proofs.lemmas.List.{drop_all}
use Rattle.std.proofs.lemmas.List.Splits.{length-slice_split, slice_split_first, slice_split_none}
use Rattle.std.proofs.lemmas.List.Sums.{fails_before_first}
use Rattle.std.specs.List.{position, position_or_len, slice_split}
use Rattle.std.specs.Str.Lines.{lines, lines_of_parts, strip_carriage_return}
use Rattle.scenario.specs.Words.{is_line_feed}
use Rattle.scenario.proofs.Places.{place-found, place-missing}

pub feed_found : (text : List ℕ) (k : ℕ) → Some k ≡ position is_line_feed text → k ≡ position_or_len is_line_feed text
feed_found text k found = place-found is_line_feed text k found

pub feed_missing : (text : List ℕ) → None ≡ position is_line_feed text → length text ≡ position_or_len is_line_feed text
feed_missing text missing = place-missing is_line_feed text missing

some-bytes : (n : ℕ) → 0 < n → (n == 0) ≡ false
some-bytes n h = grind (arith, nat_tests)

pub lines-last : (text : List ℕ) (n : ℕ) → n ≡ position_or_len is_line_feed text → n ≡ length text → 0 < length text
    → lines text ≡ text ∷ lines (drop n text)
lines-last text n end whole some =
    let none = slice_split_none is_line_feed text (λ k d h. fails_before_first is_line_feed text k d (omega arith)) in
    ap lines_of_parts none ∙ ap (λ b. cond b [] (text ∷ [])) (some-bytes (length text) some)
    ∙ sym (ap (λ (rest : List ℕ). text ∷ lines rest) (drop_all n text (omega arith)))

parts-cons : (part : List ℕ) (parts : List (List ℕ)) → 0 < length parts
    → lines_of_parts (part ∷ parts) ≡ strip_carriage_return part ∷ lines_of_parts parts
parts-cons part [] h = absurd (omega arith)
parts-cons part (next ∷ parts) h = refl

pub lines-first : (text : List ℕ) (n : ℕ) → n ≡ position_or_len is_line_feed text → n < length text
    → lines text ≡ strip_carriage_return (take n text) ∷ lines (drop (n + 1) text)
lines-first text n end below =
    let first = slice_split_first is_line_feed text 0 (omega arith) in
    let parts = slice_split is_line_feed (drop (position_or_len is_line_feed text + 1) text) in
    let count = length-slice_split is_line_feed (drop (position_or_len is_line_feed text + 1) text) in
    ap lines_of_parts first ∙ parts-cons (take (position_or_len is_line_feed text) text) parts (omega (arith, count))
    ∙ ap (λ k. strip_carriage_return (take k text) ∷ lines (drop (k + 1) text)) (sym end)
