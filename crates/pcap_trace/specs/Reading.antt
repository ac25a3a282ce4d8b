-- The results that a read of a trace file may have.
use Rattle.std.specs.Prelude.{◌≡◌, ◌+◌, ◌==◌, ◌&&◌, ℕ, List, length, drop, Bool, true, false, not, nat_lt, if◌then◌else◌, Option, Some}
use Rattle.std.specs.Prelude.{None, Result, Ok, Err, ⊤}
use Rattle.pcap_trace.specs.declared.fault.ReadError.{ReadError}
use Rattle.pcap_trace.specs.declared.fault.ReadError.TheVariants as errors
use Rattle.pcap_trace.specs.declared.header.Endianness.{Endianness}
use Rattle.pcap_trace.specs.declared.trace.Trace.{Trace}
use Rattle.pcap_trace.specs.Format.{Order, number_order, is_magic, oversized, IsFileHeader, IsBody, IsTrace}

-- The fault of a file header whose numbers are in this byte order: the first that applies, or none. (pcap-savefile, "File Header"; which
-- fault is first: our choice)
abbrev pub header_fault : Order → List ℕ → Option ReadError
header_fault number bytes =
    if nat_lt (length bytes) 24 then Some errors.Header
    else (if not (is_magic (number 4 bytes)) then Some errors.Magic
    else (if not ((number 2 (drop 4 bytes) == 2) && (number 2 (drop 6 bytes) == 4)) then Some errors.Version
    else (if not (number 4 (drop 20 bytes) == 1) then Some errors.LinkType
    else None)))

-- The error is a fault of the file header that the bytes begin with: `Magic` in both byte orders, any other error in at least one byte
-- order. (our choice)
abbrev pub IsHeaderFault : List ℕ → ReadError → Type 0
IsHeaderFault bytes errors.Magic = (order : Endianness) → header_fault (number_order order) bytes ≡ Some errors.Magic
IsHeaderFault bytes e = (order : Endianness) × (header_fault (number_order order) bytes ≡ Some e)

-- After complete packets, or at the beginning, a complete packet header has a captured length that is too large. (our choice)
abbrev pub HasOversized : Order → List ℕ → Type 0
HasOversized number bytes = (frames : List (List ℕ)) × (skipped : ℕ) × IsBody number bytes frames skipped oversized

-- The result fits the bytes. A trace fits if the bytes are this trace. `Record` fits if a file header and then a body with too large a
-- captured length follow. `Memory` and `Read` fit any bytes. Another error fits if it is a fault of the file header. (our choice)
abbrev pub IsAnswer : List ℕ → Result Trace ReadError → Type 0
IsAnswer bytes (Ok t) = IsTrace bytes t.frames t.skipped t.cut
IsAnswer bytes (Err errors.Record) = (order : Endianness) × IsFileHeader (number_order order) bytes
    × HasOversized (number_order order) (drop 24 bytes)
IsAnswer bytes (Err errors.Memory) = ⊤
IsAnswer bytes (Err errors.Read) = ⊤
IsAnswer bytes (Err e) = IsHeaderFault bytes e

-- whether a result depends on the bytes: any result but `Memory` and `Read`
abbrev pub is_of_bytes : Result Trace ReadError → Bool
is_of_bytes (Err errors.Memory) = false
is_of_bytes (Err errors.Read) = false
is_of_bytes _ = true

-- If the result depends on the bytes, no other result that depends on the bytes fits them. (our choice)
abbrev pub IsOnlyAnswer : List ℕ → Result Trace ReadError → Type 0
IsOnlyAnswer bytes r = is_of_bytes r ≡ true → (s : Result Trace ReadError) → is_of_bytes s ≡ true → IsAnswer bytes s → s ≡ r

-- The source failed once if the result is `Read`; otherwise it didn't fail. (our choice)
abbrev pub TellsFailure : {T : Type 0} → Result T ReadError → ℕ → ℕ → Type 0
TellsFailure (Err errors.Read) old new = new ≡ old + 1
TellsFailure _ old new = new ≡ old

-- An error fits these bytes, which follow the file header. `Memory` and `Read` fit any bytes. `Record` fits if a captured length is too
-- large. No other error fits. (our choice)
abbrev pub IsBodyFault : Order → List ℕ → ReadError → Type 0
IsBodyFault number bytes errors.Record = HasOversized number bytes
IsBodyFault number bytes errors.Memory = ⊤
IsBodyFault number bytes errors.Read = ⊤
IsBodyFault number bytes _ = ⊥
