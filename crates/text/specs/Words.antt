-- The words of a line (our choice).
use Rattle.std.specs.Prelude.{◌==◌, ◌+◌, ℕ, Bool, List, [], drop, filter, flat_map, length, map, nat_lt, take}
use Rattle.std.specs.Borrow.{Bor}
use Rattle.std.specs.List.{position_or_len, slice_index_or, slice_split}
use Rattle.std.specs.Str.{bytes_eq}

-- A text, as the list of its bytes.
abbrev pub Text : Type 0
Text = List ℕ

-- The texts of words in memory, in order.
abbrev pub texts : List (Bor Text) → List Text
texts words = map (λ (word : Bor Text). word.now) words

abbrev pub is_space : ℕ → Bool
is_space byte = byte == 0x20

abbrev pub is_tab : ℕ → Bool
is_tab byte = byte == 0x09

-- Whether a part of a line is a word: the part has at least one byte.
abbrev pub is_word : Text → Bool
is_word part = nat_lt 0 (length part)

-- The words of a line, in order. Spaces and tabs separate words.
abbrev pub words_of : Text → List Text
words_of line = filter is_word (flat_map (slice_split is_tab) (slice_split is_space line))

-- The word at this index, counted from 0, or the empty text if there is no such word.
abbrev pub word : ℕ → List Text → Text
word k words = slice_index_or words k []

-- Whether a word is `mark`.
abbrev pub is_same : (mark word : Text) → Bool
is_same mark word = bytes_eq word mark

-- The index of the first word that is `mark`, or the number of words if no word is `mark`.
abbrev pub place_of : (mark : Text) → List Text → ℕ
place_of mark words = position_or_len (is_same mark) words

-- The words before the first word that is `mark`, or all words if no word is `mark`.
abbrev pub words_before : (mark : Text) → List Text → List Text
words_before mark words = take (place_of mark words) words

-- The words after the first word that is `mark`, or the empty list if no word is `mark`.
abbrev pub words_after : (mark : Text) → List Text → List Text
words_after mark words = drop (place_of mark words + 1) words
