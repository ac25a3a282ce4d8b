-- The results of reading lines (our choice). Nothing is stated about a reader whose bytes aren't visible to contracts.
use Rattle.std.specs.Prelude.{⊤, ◌≡◌, ◌≢◌, ◌+◌, ◌++◌, ◌<◌, ◌≤◌, ℕ, List, [], Bool, Option, Some, None, if◌then◌else◌, length, nat_lt, take}
use Rattle.server_requests.specs.Lines.{behind_line, first_line, most_line_bytes}
use Rattle.server_requests.specs.Texts.{Text}
use Rattle.server_requests.specs.declared.line_reader.NextLine.{NextLine}
use Rattle.server_requests.specs.declared.line_reader.NextLine.TheVariants.{End, Whole, Long}
use Rattle.server_requests.specs.declared.line_reader.Part.{Part}
use Rattle.server_requests.specs.declared.line_reader.Part.TheVariants as parts

-- If the bytes that were left before (first list) are known, the bytes left after (second list) are also known, and `Holds` relates both.
abbrev pub BothKnown : Option (List ℕ) → Option (List ℕ) → (List ℕ → List ℕ → Type 0) → Type 0
BothKnown None after Holds = ⊤
BothKnown (Some old) None Holds = ⊥
BothKnown (Some old) (Some new) Holds = Holds old new

-- No byte was left to read before (`old`), and no byte is left after (`new`).
pub record AtEnd (old new : List ℕ) : Type 0 where
  pub none : old ≡ []
  pub still : new ≡ []

-- the result of reading a line: `Long` if the line is too long, else `Whole`
abbrev pub whole_or_long : Bool → NextLine
whole_or_long is_long = if is_long then Long else Whole

-- These bytes were read, and no LF is among them.
pub record GoesOn (bytes old new : List ℕ) : Type 0 where
  -- The bytes were the first of the bytes that were left, and `new` are the bytes after them.
  pub all : old ≡ bytes ++ new
  -- The line of `old` consists of these bytes and then of the line of `new`.
  pub first : first_line old ≡ bytes ++ first_line new
  -- The bytes after the line of `old` are the bytes after the line of `new`.
  pub behind : behind_line old ≡ behind_line new

-- These bytes were read, and they are the rest of a line. The line's LF was also read, if the line has an LF.
pub record IsRestOfLine (bytes old new : List ℕ) : Type 0 where
  -- At least one byte was left.
  pub some : old ≢ []
  -- The rest of the line consists of `bytes`.
  pub first : first_line old ≡ bytes
  -- The bytes after the line are left.
  pub rest : new ≡ behind_line old

-- `bytes` were appended to `line`, as far as there was room; the result is `line'`. `is_long` is true if there wasn't room for all `bytes`.
pub record Adds (is_long : Bool) (bytes : List ℕ) (line line' : Text) : Type 0 where
  -- The result is the first `most_line_bytes` bytes of `line` and `bytes` together, or all their bytes if there are fewer.
  pub kept : line' ≡ take most_line_bytes (line ++ bytes)
  -- whether `line` and `bytes` together have more than `most_line_bytes` bytes
  pub long : is_long ≡ nat_lt most_line_bytes (length line + length bytes)

-- A part of a line was read and appended; or, for `None`, no byte was left, and the line doesn't change.
abbrev pub TakesPart : Part → Text → Text → List ℕ → List ℕ → Type 0
TakesPart parts.None line line' old new = AtEnd old new × (line' ≡ line)
TakesPart (parts.More is_long) line line' old new = (bytes : List ℕ) × GoesOn bytes old new × Adds is_long bytes line line'
TakesPart (parts.Last is_long) line line' old new = (bytes : List ℕ) × IsRestOfLine bytes old new × Adds is_long bytes line line'

-- The first line of the bytes that were left was read, and isn't too long.
pub record IsWholeLine (line : Text) (old new : List ℕ) : Type 0 where
  -- At least one byte was left.
  pub some : old ≢ []
  -- The line isn't too long.
  pub short : length (first_line old) ≤ most_line_bytes
  -- This line was read.
  pub line_is : line ≡ first_line old
  -- The bytes after the line are left.
  pub rest : new ≡ behind_line old

-- The first line of the bytes that were left was read, and is too long.
pub record IsLong (old new : List ℕ) : Type 0 where
  -- At least one byte was left.
  pub some : old ≢ []
  -- The line is too long.
  pub long : most_line_bytes < length (first_line old)
  -- The bytes after the line are left.
  pub rest : new ≡ behind_line old

-- The meaning of the result of reading the next line: no line was left (`End`), `line` was read (`Whole`), or the line is too long
-- (`Long`).
abbrev pub IsNextLine : NextLine → Text → Option (List ℕ) → Option (List ℕ) → Type 0
IsNextLine End line before after = BothKnown before after AtEnd
IsNextLine Whole line before after = BothKnown before after (IsWholeLine line)
IsNextLine Long line before after = BothKnown before after IsLong
