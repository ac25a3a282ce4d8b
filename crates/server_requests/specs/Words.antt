-- The words of a line.
use Rattle.std.specs.Prelude.{◌||◌, ℕ, Bool, List, [], Option, None, Some}
use Rattle.std.specs.Borrow.{Bor}
use Rattle.std.specs.List.{slice_split}
use Rattle.text.specs.Words.{Text, is_space, is_tab}
pub use Rattle.text.specs.Words.{texts, word, words_of}

-- whether a byte is a space or a tab, which separate words
abbrev pub is_blank : ℕ → Bool
is_blank byte = is_space byte || is_tab byte

-- the parts into which blanks separate the text after the first blank, or no parts if there is no such text
abbrev pub parts_after : Option (Bor Text) → List Text
parts_after None = []
parts_after (Some text) = slice_split is_blank text.now
