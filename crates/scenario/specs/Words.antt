-- The words of a line, and the byte that ends a line (our choice).
use Rattle.std.specs.Prelude.{◌==◌, ℕ, Bool}
pub use Rattle.text.specs.Words.{Text, texts, word, words_of}

-- whether a byte is a line feed
abbrev pub is_line_feed : ℕ → Bool
is_line_feed byte = byte == 0x0A
