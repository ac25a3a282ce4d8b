-- The lines of an input (our choice; QEMU, docs/devel/testing/qtest: a request is a line).
use Rattle.std.specs.Prelude.{◌==◌, ℕ, Bool, List, [], ◌∷◌, if◌then◌else◌}
use Rattle.server_requests.specs.Texts.{Text}

-- whether a byte is LF, which ends a line
abbrev pub is_feed : ℕ → Bool
is_feed byte = byte == 0x0A

-- the bytes before the first LF, or all bytes if there is no LF
abbrev pub first_line : List ℕ → Text
first_line [] = []
first_line (byte ∷ later) = if is_feed byte then [] else byte ∷ first_line later

-- the bytes after the first LF, or no bytes if there is no LF
abbrev pub behind_line : List ℕ → List ℕ
behind_line [] = []
behind_line (byte ∷ later) = if is_feed byte then later else behind_line later

-- the lines with this byte added to the front of the first line, or one line of this byte if there is no line
abbrev pub with_front : ℕ → List Text → List Text
with_front byte [] = (byte ∷ []) ∷ []
with_front byte (line ∷ lines) = (byte ∷ line) ∷ lines

-- the lines of some bytes, without LFs: each line that an LF ends, and then the bytes after the last LF, if there are any
abbrev pub lines_of : List ℕ → List Text
lines_of [] = []
lines_of (byte ∷ later) = if is_feed byte then [] ∷ lines_of later else with_front byte (lines_of later)

-- the maximum number of bytes of a line without its LF
abbrev pub most_line_bytes : ℕ
most_line_bytes = 131200
