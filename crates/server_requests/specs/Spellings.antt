-- The numbers and the bytes that words spell (QEMU, docs/devel/testing/qtest; our choice: a number is decimal, or hexadecimal after 0x).
use Rattle.std.specs.Prelude.{⊤, ◌≡◌, ℕ, List, Option, Some, None, if◌then◌else◌, Ok, Err, Result, nat_le, nat_lt}
use Rattle.text.specs.Numbers.{begins_0x, behind_0x, has_x, number_spelled}
use Rattle.hex.specs.Hex as hex
use Rattle.base64.specs.Engines.{standard}
use Rattle.base64.specs.GeneralPurpose.{decode_of}
use Rattle.server_requests.specs.Texts.{Text}
use Rattle.server_requests.specs.declared.refusal.Refusal.{Refusal}
use Rattle.server_requests.specs.declared.refusal.Refusal.TheVariants as refusals
use Rattle.server_requests.specs.declared.refusal.Stop.{Stop}
use Rattle.server_requests.specs.declared.verb.Encoding.{Encoding}
use Rattle.server_requests.specs.declared.verb.Encoding.TheVariants as encodings
use Rattle.server_requests.specs.declared.refusal.Stop.TheVariants.{Memory, Refused}

-- Parsing stopped because memory was refused, or because of a refusal; in the second case, `read` is the same refusal.
abbrev pub Fails : {A : Type 0} → Stop → Result A Refusal → Type 0
Fails Memory read = ⊤
Fails (Refused refusal) read = read ≡ Err refusal

-- Parsing returned the value of `read`, or parsing stopped as `Fails` states.
abbrev pub Gives : {A : Type 0} → Result A Stop → Result A Refusal → Type 0
Gives (Ok value) read = read ≡ Ok value
Gives (Err stop) read = Fails stop read

-- the result of `next` for the value of the first result, or the refusal of the first result
infixl 10 ◌>>=◌
abbrev pub ◌>>=◌ : {A B : Type 0} → Result A Refusal → (A → Result B Refusal) → Result B Refusal
(Ok value) >>= next = next value
(Err refusal) >>= next = Err refusal

-- the number if there is one and it is at most `most`, or else the refusal `value`
abbrev pub at_most : ℕ → Option ℕ → Result ℕ Refusal
at_most most (Some number) = if nat_le number most then Ok number else Err refusals.Value
at_most most None = Err refusals.Value

-- the number that a word spells if it spells a number up to and including `most`, or else the refusal `value`
abbrev pub number_at_most : (most : ℕ) → Text → Result ℕ Refusal
number_at_most most word = at_most most (number_spelled word)

-- the greatest number of 64 bits
abbrev pub greatest_number : ℕ
greatest_number = 0xFFFFFFFFFFFFFFFF

-- the maximum SIZE of a request, in bytes
abbrev pub most_bytes : ℕ
most_bytes = 65536

-- the size if it is at most `most_bytes`, or else the refusal `size`
abbrev pub size_of_number : ℕ → Result ℕ Refusal
size_of_number size = if nat_lt most_bytes size then Err refusals.Size else Ok size

-- the size in bytes that a word spells, or a refusal
abbrev pub size_in : Text → Result ℕ Refusal
size_in word = number_at_most greatest_number word >>= size_of_number

-- the decoded bytes; an error of the decoder is the refusal `value`
abbrev pub bytes_or_refusal : {E : Type 0} → Result (List ℕ) E → Result (List ℕ) Refusal
bytes_or_refusal (Ok bytes) = Ok bytes
bytes_or_refusal (Err fault) = Err refusals.Value

-- the bytes that hexadecimal digits spell, two digits per byte, or the refusal `value`
abbrev pub bytes_spelled : Text → Result (List ℕ) Refusal
bytes_spelled word = bytes_or_refusal (hex.decode_of word)

-- the bytes that a text in base64 encodes (RFC 4648, section 4), or the refusal `value`
abbrev pub base64_in : Text → Result (List ℕ) Refusal
base64_in word = bytes_or_refusal (decode_of standard word)

-- the bytes that the hexadecimal digits after 0x spell, or the refusal `value`; a word that doesn't begin with 0x is refused
abbrev pub prefixed_bytes_in : Text → Result (List ℕ) Refusal
prefixed_bytes_in word =
    if has_x word then (if begins_0x word then bytes_spelled (behind_0x word) else Err refusals.Value) else Err refusals.Value

-- the bytes that a word spells in this encoding, or the refusal `value`
abbrev pub payload_in : Encoding → Text → Result (List ℕ) Refusal
payload_in encodings.Hexadecimal word = prefixed_bytes_in word
payload_in encodings.Base64 word = base64_in word
