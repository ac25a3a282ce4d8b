-- The words of a line (our choice).
use Rattle.std.specs.Prelude.{◌==◌, Bool, List, codes, not, slice_index}
use Rattle.std.specs.List.{take_while}
use Rattle.text.specs.Words.{words_of as words_in_line, words_after, words_before}
pub use Rattle.text.specs.Words.{Text, texts, word}

-- whether a word doesn't begin a comment: its first byte isn't #, 0x23
abbrev pub is_no_comment : Text → Bool
is_no_comment word = not (slice_index word 0 == 0x23)

-- the words of a line, which spaces and tabs separate, up to a comment
abbrev pub words_before_comment : Text → List Text
words_before_comment line = take_while is_no_comment (words_in_line line)

-- the words before the first word `before`
abbrev pub action_words : List Text → List Text
action_words words = words_before (codes "before") words

-- the words after the first word `before`
abbrev pub event_words : List Text → List Text
event_words words = words_after (codes "before") words
