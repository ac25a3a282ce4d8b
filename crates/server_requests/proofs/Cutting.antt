-- The words of a line are the parts between its blanks that aren't empty.
use Rattle.std.proofs.Common.{◌≡◌, ◌∙◌, ◌+◌, ◌<◌, ◌≤◌, ◌++◌, ◌||◌, ℕ, Bool, true, false, cond, List, [], ◌∷◌, Some, None}
use Rattle.std.proofs.Common.{ap, get_or, arith, drop, length, nat_lt, refl, subst, sym, take}
use Rattle.std.proofs.lemmas.Bool.Decides.{nat_tests}
use Rattle.std.proofs.lemmas.List.{take-append-le, take_all}
use Rattle.std.proofs.lemmas.List.Splits.{length-slice_split, slice_split_first, slice_split_none}
use Rattle.std.proofs.lemmas.List.Sums.{fails_before_first, passes_at_first}
use Rattle.std.specs.List.{filter, flat_map, onto_first, position, position_or_len, slice_split}
use Rattle.std.specs.Str.{IsCharBoundary}
use Rattle.text.specs.Words.{Text, is_space, is_tab, is_word, words_of}
use Rattle.server_requests.specs.Words.{is_blank}

-- Splitting a line at spaces, and then each part at tabs, has the same parts as splitting the line at both.

onto-append : (x : ℕ) (parts more : List Text) → 0 < length parts → onto_first x parts ++ more ≡ onto_first x (parts ++ more)
onto-append x [] more some = absurd (omega arith)
onto-append x (part ∷ parts) more some = refl

with_tab : (tab : Bool) (byte : ℕ) (parts more all : List Text) → 0 < length parts → parts ++ more ≡ all
    → cond tab ([] ∷ parts) (onto_first byte parts) ++ more ≡ cond tab ([] ∷ all) (onto_first byte all)
with_tab true byte parts more all some is = ap (λ (p : List Text). [] ∷ p) is
with_tab false byte parts more all some is = onto-append byte parts more some ∙ ap (onto_first byte) is

with_space : (space : Bool) (byte : ℕ) (parts all : List Text) → 0 < length parts → flat_map (slice_split is_tab) parts ≡ all
    → flat_map (slice_split is_tab) (cond space ([] ∷ parts) (onto_first byte parts))
    ≡ cond (space || is_tab byte) ([] ∷ all) (onto_first byte all)
with_space true byte parts all some is = ap (λ (p : List Text). [] ∷ p) is
with_space false byte [] all some is = absurd (omega arith)
with_space false byte (part ∷ parts) all some is =
    with_tab (is_tab byte) byte (slice_split is_tab part) (flat_map (slice_split is_tab) parts) all
    (omega (arith, length-slice_split is_tab part)) is

cut_once : (line : Text) → flat_map (slice_split is_tab) (slice_split is_space line) ≡ slice_split is_blank line
cut_once [] = refl
cut_once (byte ∷ line) =
    with_space (is_space byte) byte (slice_split is_space line) (slice_split is_blank line)
    (omega (arith, length-slice_split is_space line)) (cut_once line)

pub words_once : (line : Text) → words_of line ≡ filter is_word (slice_split is_blank line)
words_once line = ap (filter is_word) (cut_once line)

-- Cutting a line at its first blank.

if-some : (b : Bool) (n k : ℕ) → Some k ≡ cond b (Some n) None → k ≡ n
if-some true n k e = cc
if-some false n k e = cc

some-yes : (b : Bool) (n k : ℕ) → Some k ≡ cond b (Some n) None → b ≡ true
some-yes true n k e = refl
some-yes false n k e = absurd (cc)

if-none : (b : Bool) (n : ℕ) → None ≡ cond b (Some n) None → b ≡ false
if-none true n e = absurd (cc)
if-none false n e = refl

less : (m n : ℕ) → nat_lt m n ≡ true → m < n
less m n e = grind (arith, nat_tests)

not-less : (m n : ℕ) → nat_lt m n ≡ false → n ≤ m
not-less m n e = grind (arith, nat_tests)

pub place_is : (line : Text) (k : ℕ) → Some k ≡ position is_blank line → k ≡ position_or_len is_blank line
place_is line k found = if-some (nat_lt (position_or_len is_blank line) (length line)) (position_or_len is_blank line) k found

pub place_within : (line : Text) (k : ℕ) → Some k ≡ position is_blank line → k < length line
place_within line k found =
    let below = less _ _ (some-yes (nat_lt (position_or_len is_blank line) (length line)) (position_or_len is_blank line) k found) in
    omega (arith, below, place_is line k found)

is_ascii : (byte : ℕ) → is_blank byte ≡ true → byte < 128
is_ascii byte blank = grind (arith, nat_tests)

pub blank_at : (line : Text) (k : ℕ) → Some k ≡ position is_blank line → get_or line k 0 < 128
blank_at line k found =
    let at = place_is line k found in
    let below = place_within line k found in
    subst (λ (n : ℕ). get_or line n 0 < 128) (sym at)
    (is_ascii _ (passes_at_first is_blank line 0 (omega (arith, at, below))))

pub cut_some : (line : Text) (k : ℕ) → Some k ≡ position is_blank line
    → slice_split is_blank line ≡ take k line ∷ slice_split is_blank (drop (k + 1) line)
cut_some line k found =
    let at = place_is line k found in
    let below = place_within line k found in
    slice_split_first is_blank line 0 (omega (arith, at, below))
    ∙ ap (λ (n : ℕ). take n line ∷ slice_split is_blank (drop (n + 1) line)) (sym at)

pub boundary_at : (line : Text) (k : ℕ) → Some k ≡ position is_blank line → IsCharBoundary line k
boundary_at line k found =
    (omega (arith, place_within line k found), λ within high. absurd (omega (arith, high, blank_at line k found)))

pub cut_as : (line word later : Text) (k : ℕ) → Some k ≡ position is_blank line → word ≡ take k line → later ≡ drop (k + 1) line
    → slice_split is_blank line ≡ word ∷ slice_split is_blank later
cut_as line word later k found word_is later_is =
    cut_some line k found ∙ ap (λ (w : Text). w ∷ slice_split is_blank (drop (k + 1) line)) (sym word_is)
    ∙ ap (λ (l : Text). word ∷ slice_split is_blank l) (sym later_is)

pub cut_none : (line : Text) → None ≡ position is_blank line → slice_split is_blank line ≡ line ∷ []
cut_none line missing =
    let far = not-less _ _ (if-none (nat_lt (position_or_len is_blank line) (length line)) (position_or_len is_blank line) missing) in
    slice_split_none is_blank line (λ k d h. fails_before_first is_blank line k d (omega (arith, far)))

-- The first five words.
pub five_words : (line : Text) (words more : List Text) → words ++ more ≡ words_of line → length words ≡ 5 → words ≡ take 5 (words_of line)
five_words line words more so five =
    sym (take_all 5 words (omega (arith, five))) ∙ sym (take-append-le 5 words more (omega (arith, five))) ∙ ap (take 5) so
