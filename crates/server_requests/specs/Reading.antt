-- The request of a line, or why the line is refused (QEMU, docs/devel/testing/qtest; additional requests, and the refusals: our choice).
use Rattle.std.specs.Prelude.{◌==◌, ℕ, List, [], ◌∷◌, Bool, true, false, Option, Some, None, Result, Ok, Err, codes, if◌then◌else◌, length}
use Rattle.std.specs.Prelude.{replicate, IsUtf8}
use Rattle.std.specs.Str.{bytes_eq}
use Rattle.adapter.specs.model_types.step.StepKind.{StepKind}
use Rattle.server_requests.specs.Spellings.{Gives, bytes_spelled, greatest_number, number_at_most, payload_in, size_in, ◌>>=◌}
use Rattle.server_requests.specs.Texts.{Text}
use Rattle.server_requests.specs.Verbs.{step_kind_named, takes_words, verb_named}
use Rattle.server_requests.specs.Widths.{bytes_spelling, greatest}
use Rattle.registers.specs.Bytes.{ones_of}
use Rattle.server_requests.specs.Words.{word, words_of}
use Rattle.registers.specs.declared.port_width.PortWidth.{PortWidth}
use Rattle.server_requests.specs.declared.refusal.Refusal.{Refusal}
use Rattle.server_requests.specs.declared.refusal.Refusal.TheVariants as refusals
use Rattle.server_requests.specs.declared.refusal.Stop.{Stop}
use Rattle.server_requests.specs.declared.request.Look.TheVariants as looks
use Rattle.server_requests.specs.declared.request.Request.{Request}
use Rattle.server_requests.specs.declared.request.Request.TheVariants as requests
use Rattle.server_requests.specs.declared.request.Setting.TheVariants as settings
use Rattle.server_requests.specs.declared.reading.Area.{Area}
use Rattle.server_requests.specs.declared.request.Wanted.{Wanted}
use Rattle.server_requests.specs.declared.request.Wanted.TheVariants as wanted
use Rattle.server_requests.specs.declared.request.Width.{Width}
use Rattle.server_requests.specs.declared.verb.Encoding.{Encoding}
use Rattle.server_requests.specs.declared.verb.Encoding.TheVariants as encodings
use Rattle.server_requests.specs.declared.verb.Verb.{Verb}
use Rattle.server_requests.specs.declared.verb.Verb.TheVariants.{ReadNumber, WriteNumber, Read, Write, Memset, ReadPort, WritePort}
use Rattle.server_requests.specs.declared.verb.Verb.TheVariants.{Endianness, Intercept, ClockStep, ClockSet, Step, Arrive, Settle}
use Rattle.server_requests.specs.declared.verb.Verb.TheVariants.{Line, Interleave, Log, Wire, Offer, Events, Frames, Faults, Pace}
use Rattle.server_requests.specs.declared.verb.Verb.TheVariants.{Choose, Digest, Enabled, Rings, Target, Save, Restore}

-- the maximum COUNT of `interleave` and of `pace`
abbrev pub most_count : ℕ
most_count = 65535

-- the ADDR and the SIZE of a line, its words 1 and 2, counted from 0
abbrev pub area_in : List Text → Result Area Refusal
area_in words = do
  address ← number_at_most greatest_number (word 1 words)
  size ← size_in (word 2 words)
  Ok (record { address = address; size = size })

-- the request to write bytes to an area, or the refusal `value` if their number isn't the size of the area
abbrev pub write_to : Area → List ℕ → Result Request Refusal
write_to area bytes = if length bytes == area.size then Ok (requests.Write area.address bytes) else Err refusals.Value

-- the request of `write ADDR SIZE 0xHEX` or `b64write ADDR SIZE BASE64`
abbrev pub write_in : Encoding → List Text → Result Request Refusal
write_in encoding words = do
  area ← area_in words
  bytes ← payload_in encoding (word 3 words)
  write_to area bytes

-- the request of `memset ADDR SIZE VALUE`
abbrev pub memset_in : List Text → Result Request Refusal
memset_in words = do
  area ← area_in words
  value ← number_at_most 0xFF (word 3 words)
  Ok (requests.Write area.address (replicate area.size value))

-- true for the word `first`, and false for the word `second`; any other word is refused
abbrev pub is_first : (first second word : Text) → Result Bool Refusal
is_first first second word =
    if bytes_eq word first then Ok true else if bytes_eq word second then Ok false else Err refusals.Value

-- the request of `log on`, `log off` or `log targets`
abbrev pub log_in : Text → Result Request Refusal
log_in word =
    if bytes_eq word (codes "targets") then Ok (requests.Set (settings.Log true true))
    else is_first (codes "on") (codes "off") word >>= λ on. Ok (requests.Set (settings.Log on false))

-- the request of `wire free` or `wire full`
abbrev pub wire_in : Text → Result Request Refusal
wire_in word = is_first (codes "free") (codes "full") word >>= λ free. Ok (requests.Set (settings.Wire free))

-- the request of `events on` or `events off`
abbrev pub events_in : Text → Result Request Refusal
events_in word = is_first (codes "on") (codes "off") word >>= λ on. Ok (requests.Set (settings.Events on))

-- the request for a step of this kind, or the refusal `value` if there is no kind
abbrev pub step_or_refusal : Option StepKind → Result Request Refusal
step_or_refusal (Some kind) = Ok (requests.Step kind)
step_or_refusal None = Err refusals.Value

-- the request of `step KIND`
abbrev pub step_in : Text → Result Request Refusal
step_in word = step_or_refusal (step_kind_named word)

-- the request to read a number of this width
abbrev pub read_number_in : Width → List Text → Result Request Refusal
read_number_in width words = do
  address ← number_at_most greatest_number (word 1 words)
  Ok (requests.Read (wanted.Number width) address)

-- the request to write a number of this width
abbrev pub write_number_in : Width → List Text → Result Request Refusal
write_number_in width words = do
  address ← number_at_most greatest_number (word 1 words)
  value ← number_at_most (greatest width) (word 2 words)
  Ok (requests.Write address (bytes_spelling width value))

-- the number of bytes and the form of the answer, of a request to read this number of bytes in this encoding
abbrev pub wanted_bytes : Encoding → ℕ → Wanted
wanted_bytes encodings.Hexadecimal size = wanted.Bytes size
wanted_bytes encodings.Base64 size = wanted.Base64 size

-- the request of `read ADDR SIZE` or `b64read ADDR SIZE`
abbrev pub read_request : Encoding → List Text → Result Request Refusal
read_request encoding words = area_in words >>= λ area. Ok (requests.Read (wanted_bytes encoding area.size) area.address)

-- the maximum number of an I/O port
abbrev pub most_port : ℕ
most_port = 0xFFFF

-- the request to read an I/O port with this width
abbrev pub read_port_in : PortWidth → Text → Result Request Refusal
read_port_in width word = number_at_most most_port word >>= λ port. Ok (requests.Look (looks.Port width port))

-- the request to write an I/O port with this width
abbrev pub write_port_in : PortWidth → List Text → Result Request Refusal
write_port_in width words = do
  port ← number_at_most most_port (word 1 words)
  value ← number_at_most (ones_of width) (word 2 words)
  Ok (requests.WritePort width port value)

-- the request of `arrive HEX`
abbrev pub arrive_in : Text → Result Request Refusal
arrive_in word = bytes_spelled word >>= λ bytes. Ok (requests.Arrive bytes)

-- the request of `offer HEX`
abbrev pub offer_in : Text → Result Request Refusal
offer_in word = bytes_spelled word >>= λ bytes. Ok (requests.Offer bytes)

-- the request of `interleave COUNT`
abbrev pub interleave_in : Text → Result Request Refusal
interleave_in word = number_at_most most_count word >>= λ count. Ok (requests.Set (settings.Interleave count))

-- the request of `pace COUNT`
abbrev pub pace_in : Text → Result Request Refusal
pace_in word = number_at_most most_count word >>= λ count. Ok (requests.Set (settings.Pace count))

-- the request of `clock_step NS`, or of `clock_step` without a number, which advances the clock by 0
abbrev pub clock_step_in : List Text → Result Request Refusal
clock_step_in words =
    if length words == 1 then Ok (requests.ClockStep 0)
    else number_at_most greatest_number (word 1 words) >>= λ time. Ok (requests.ClockStep time)

-- the request of `clock_set NS`
abbrev pub clock_set_in : Text → Result Request Refusal
clock_set_in word = number_at_most greatest_number word >>= λ time. Ok (requests.ClockSet time)

-- the maximum limit of `choose`
abbrev pub most_limit : ℕ
most_limit = 1000000000

-- the request for a number below a limit; the limit 0 is refused
abbrev pub choose_below : ℕ → Result Request Refusal
choose_below limit = if limit == 0 then Err refusals.Value else Ok (requests.Choose limit)

-- the request of `choose LIMIT`
abbrev pub choose_in : Text → Result Request Refusal
choose_in word = number_at_most most_limit word >>= choose_below

-- the request of `target ADDR SIZE`
abbrev pub target_request : List Text → Result Request Refusal
target_request words = area_in words >>= λ area. Ok (requests.Look (looks.Target area.address area.size))

-- the request of a line with this kind of request and an allowed number of words
abbrev pub request_with : Verb → List Text → Result Request Refusal
request_with (ReadNumber width) words = read_number_in width words
request_with (WriteNumber width) words = write_number_in width words
request_with (Read encoding) words = read_request encoding words
request_with (Write encoding) words = write_in encoding words
request_with Memset words = memset_in words
request_with (ReadPort width) words = read_port_in width (word 1 words)
request_with (WritePort width) words = write_port_in width words
request_with Endianness words = Ok (requests.Look looks.Endianness)
request_with Intercept words = Ok (requests.Look looks.Intercept)
request_with ClockStep words = clock_step_in words
request_with ClockSet words = clock_set_in (word 1 words)
request_with Step words = step_in (word 1 words)
request_with Arrive words = arrive_in (word 1 words)
request_with Settle words = Ok requests.Settle
request_with Line words = Ok (requests.Look looks.Line)
request_with Digest words = Ok (requests.Look looks.Digest)
request_with Interleave words = interleave_in (word 1 words)
request_with Log words = log_in (word 1 words)
request_with Wire words = wire_in (word 1 words)
request_with Offer words = offer_in (word 1 words)
request_with Events words = events_in (word 1 words)
request_with Frames words = Ok (requests.Look looks.Frames)
request_with Faults words = Ok (requests.Look looks.Faults)
request_with Pace words = pace_in (word 1 words)
request_with Enabled words = Ok (requests.Look looks.Enabled)
request_with Choose words = choose_in (word 1 words)
request_with Target words = target_request words
request_with Rings words = Ok (requests.Look looks.Rings)
request_with Save words = Ok requests.Save
request_with Restore words = Ok requests.Restore

-- the request of a line with this kind of request; an unknown kind, or a number of words that isn't allowed, is refused
abbrev pub request_if : Option Verb → List Text → Result Request Refusal
request_if (Some verb) words = if takes_words verb (length words) then request_with verb words else Err refusals.Count
request_if None words = Err refusals.Unknown

-- the request of the words of a line; a line without words is refused
abbrev pub request_in : List Text → Result Request Refusal
request_in [] = Err refusals.Unknown
request_in (first ∷ rest) = request_if (verb_named first) (first ∷ rest)

-- The result is the request of the line, or why it is refused, or memory was refused.
pub record IsRequestRead (line : Text) (result : Result Request Stop) : Type 0 where
  -- If the line is UTF-8, the result is the request or the refusal of its words.
  pub text : IsUtf8 line → Gives result (request_in (words_of line))
  -- If the line isn't UTF-8, the result is the refusal `text`.
  pub other : (¬ (IsUtf8 line)) → Gives {A = Request} result (Err refusals.Text)
