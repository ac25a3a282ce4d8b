-- Tables of words (our choice).
use Rattle.std.specs.Prelude.{List, Option}
use Rattle.std.specs.Borrow.{Bor}
use Rattle.std.specs.Map.{lookup}
use Rattle.std.specs.Str.{bytes_eq}
use Rattle.text.specs.Words.{Text}

-- An entry of a table, a word and its value, without the place of the word in memory.
abbrev pub entry_of : {T : Type 0} → Bor Text × T → Text × T
entry_of entry = (entry.0.now, entry.1)

-- The value of the first entry with this word in a table. `None` if there is no such entry.
abbrev pub value_in : {T : Type 0} → List (Text × T) → Text → Option T
value_in table word = lookup (bytes_eq word) table
