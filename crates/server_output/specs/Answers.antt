-- The lines of answers (our choice: a little-endian host, as QEMU's x86 machines are).
use Rattle.std.specs.Prelude.{⊤, ◌≡◌, ◌++◌, ◌-◌, ℕ, List, length, replicate}
use Rattle.std.specs.Int.{from_le_bytes, w64}
use Rattle.server_output.specs.Texts.{Text, base64_line, bytes_line, decimal_line, number_line, ok_line, word_line}
use Rattle.server_output.specs.declared.answers.Answer.{Answer}
use Rattle.server_output.specs.declared.answers.Answer.TheVariants as answers
use Rattle.server_requests.specs.Widths.{wanted_size}
use Rattle.server_requests.specs.declared.request.Wanted.{Wanted}
use Rattle.server_requests.specs.declared.request.Wanted.TheVariants.{Base64, Bytes, Number}

-- the number with these bytes, at most 8, the lowest first; missing bytes, the highest, are 0
unfoldable pub number_of_bytes : List ℕ → ℕ
number_of_bytes bytes = from_le_bytes w64 (bytes ++ replicate (8 - length bytes) 0)

-- the line that answers a read with these bytes, in the form that the request asks for
abbrev pub answer_line : Wanted → List ℕ → Text
answer_line (Number width) bytes = number_line (number_of_bytes bytes)
answer_line (Bytes size) bytes = bytes_line bytes
answer_line (Base64 size) bytes = base64_line bytes

-- the line of an answer
abbrev pub line_of : Answer → Text
line_of answers.Done = ok_line
line_of (answers.Word word) = word_line word.now
line_of (answers.Number number) = number_line number
line_of (answers.Decimal number) = decimal_line number
line_of (answers.Bytes wanted bytes) = answer_line wanted bytes.now

-- An answer with bytes that were read contains the number of bytes that the request asks for.
abbrev pub IsSized : Answer → Type 0
IsSized (answers.Bytes wanted bytes) = length bytes.now ≡ wanted_size wanted
IsSized answer = ⊤
