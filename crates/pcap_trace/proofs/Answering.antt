-- Of the results that depend on the bytes of a source, at most one fits. If the block of a reader contains the front of these bytes, the
-- result of the reader fits them.
use Rattle.std.proofs.Common.{◌≡◌, ◌≤◌, ◌⊎◌, ℕ, List, [], ◌++◌, length, drop, Bool, true, false, Result, Ok, Err, Option, Some, None, refl}
use Rattle.std.proofs.Common.{sym, ap, subst, ◌∙◌}
use Rattle.std.specs.Prelude.{IfSome, IfOk, IfErr}
use Rattle.std.specs.Io.KnownBytes.{IsAtEnd, prepend_known}
use Rattle.std.proofs.lemmas.List.{drop-append-le}
use Rattle.pcap_trace.specs.declared.fault.ReadError.{ReadError}
use Rattle.pcap_trace.specs.declared.fault.ReadError.TheVariants as errors
use Rattle.pcap_trace.specs.declared.header.Endianness.{Endianness}
use Rattle.pcap_trace.specs.declared.trace.Trace.{Trace}
use Rattle.pcap_trace.specs.Devices.{Receives}
use Rattle.pcap_trace.specs.Format.{Order, number_order, oversized, ending_of, IsFileHeader, IsBody, IsTraceIn, IsTrace}
use Rattle.pcap_trace.specs.Reading.{header_fault, IsHeaderFault, HasOversized, IsAnswer, IsOnlyAnswer, IsBodyFault, is_of_bytes}
use Rattle.pcap_trace.specs.Reading.{TellsFailure}
use Rattle.pcap_trace.proofs.Unique.{body_unique}
use Rattle.pcap_trace.proofs.Orders.{number_first, one_order}
use Rattle.pcap_trace.proofs.FileHeaders.{header_fault-other, header_fault-none, header_fault-known, told_fault}
use Rattle.pcap_trace.proofs.FileHeaders.{told_fault-in, told_fault-magic, IsFileHeader-from_none}

-- ---- no other result fits

ending_cut : (a b : Bool) → ending_of a ≡ ending_of b → a ≡ b
ending_cut true true e = refl
ending_cut true false e = absurd cc
ending_cut false true e = absurd cc
ending_cut false false e = refl

never_oversized : (cut : Bool) → ending_of cut ≡ oversized → ⊥
never_oversized true e = cc
never_oversized false e = cc

trace_unique : (bytes : List ℕ) (t u : Trace) → IsTrace bytes t.frames t.skipped t.cut → IsTrace bytes u.frames u.skipped u.cut → u ≡ t
trace_unique bytes t u p q =
    let one : q.0 ≡ p.0 = one_order bytes q.0 p.0 q.1.0.magic_is p.1.0.magic_is in
    let moved : IsTraceIn (number_order p.0) bytes u.frames u.skipped u.cut = subst
    (λ (o : Endianness). IsTraceIn (number_order o) bytes u.frames u.skipped u.cut) one q.1 in
    let same = body_unique (number_order p.0) (number_first p.0) (drop 24 bytes) u.frames t.frames u.skipped t.skipped (ending_of u.cut)
    (ending_of t.cut) moved.1 p.1.1 in
    ap (λ (x : List (List ℕ)). record { frames = x; skipped = u.skipped; cut = u.cut }) same.0
    ∙ ap (λ (x : ℕ). record { frames = t.frames; skipped = x; cut = u.cut }) same.1
    ∙ ap (λ (x : Bool). record { frames = t.frames; skipped = t.skipped; cut = x }) (ending_cut u.cut t.cut same.2)

-- a file header, and then a body that ends with an oversized packet
abbrev IsOversized : Endianness → List ℕ → Type 0
IsOversized order bytes = IsFileHeader (number_order order) bytes × HasOversized (number_order order) (drop 24 bytes)

not_both : (bytes : List ℕ) (t : Trace) → IsTrace bytes t.frames t.skipped t.cut → IsAnswer bytes (Err errors.Record) → ⊥
not_both bytes t p q =
    let one : q.0 ≡ p.0 = one_order bytes q.0 p.0 q.1.magic_is p.1.0.magic_is in
    let moved : IsOversized p.0 bytes = subst (λ (o : Endianness). IsOversized o bytes) one (q.1, q.2) in
    let big = moved.1 in
    never_oversized t.cut
    (body_unique (number_order p.0) (number_first p.0) (drop 24 bytes) t.frames big.0 t.skipped big.1
    (ending_of t.cut) oversized p.1.1 big.2).2

-- the fault of the header that a result reports, if it reports one
abbrev fault_of : Result Trace ReadError → Option ReadError
fault_of (Ok t) = None
fault_of (Err errors.Record) = None
fault_of (Err e) = Some e

fault_of-answer : (bytes : List ℕ) (r : Result Trace ReadError) → is_of_bytes r ≡ true → IsAnswer bytes r → told_fault bytes ≡ fault_of r
fault_of-answer bytes (Ok t) speaks fits =
    told_fault-in fits.0 bytes None (header_fault-none (number_order fits.0) bytes fits.1.0) (λ h. cc)
fault_of-answer bytes (Err errors.Record) speaks fits =
    told_fault-in fits.0 bytes None (header_fault-none (number_order fits.0) bytes fits.1)
    (λ h. cc)
fault_of-answer bytes (Err errors.Memory) speaks fits = absurd cc
fault_of-answer bytes (Err errors.Read) speaks fits = absurd cc
fault_of-answer bytes (Err errors.Magic) speaks fits = told_fault-magic bytes fits
fault_of-answer bytes (Err errors.Header) speaks fits = told_fault-in fits.0 bytes (Some errors.Header) fits.1 (λ h. cc)
fault_of-answer bytes (Err errors.Version) speaks fits = told_fault-in fits.0 bytes (Some errors.Version) fits.1 (λ h. cc)
fault_of-answer bytes (Err errors.LinkType) speaks fits = told_fault-in fits.0 bytes (Some errors.LinkType) fits.1 (λ h. cc)

same_error : (e f : ReadError) → fault_of (Err e) ≡ fault_of (Err f) → is_of_bytes (Err e) ≡ true → is_of_bytes (Err f) ≡ true → f ≡ e
same_error errors.Header errors.Header same speaks_e speaks_f = refl
same_error errors.Magic errors.Magic same speaks_e speaks_f = refl
same_error errors.Version errors.Version same speaks_e speaks_f = refl
same_error errors.LinkType errors.LinkType same speaks_e speaks_f = refl
same_error errors.Record errors.Record same speaks_e speaks_f = refl
same_error errors.Memory errors.Memory same speaks_e speaks_f = refl
same_error errors.Read errors.Read same speaks_e speaks_f = refl
same_error e f same speaks_e speaks_f = cc

no_fault : (e : ReadError) → None ≡ fault_of (Err e) → is_of_bytes (Err e) ≡ true → e ≡ errors.Record
no_fault errors.Record same speaks = refl
no_fault e same speaks = absurd cc

at_record : (bytes : List ℕ) (e : ReadError) → e ≡ errors.Record → IsAnswer bytes (Err e) → IsAnswer bytes (Err errors.Record)
at_record bytes e is fits = subst (λ (x : ReadError). IsAnswer bytes (Err x)) is fits

same_answer : (bytes : List ℕ) (r s : Result Trace ReadError) → fault_of r ≡ fault_of s → is_of_bytes r ≡ true → is_of_bytes s ≡ true
    → IsAnswer bytes r → IsAnswer bytes s → s ≡ r
same_answer bytes (Ok t) (Ok u) same speaks_r speaks_s p q = ap Ok (trace_unique bytes t u p q)
same_answer bytes (Ok t) (Err e) same speaks_r speaks_s p q = absurd (not_both bytes t p (at_record bytes e (no_fault e same speaks_s) q))
same_answer bytes (Err e) (Ok u) same speaks_r speaks_s p q = absurd
    (not_both bytes u q (at_record bytes e (no_fault e (sym same) speaks_r) p))
same_answer bytes (Err e) (Err f) same speaks_r speaks_s p q = ap Err (same_error e f same speaks_r speaks_s)

only_answer : (bytes : List ℕ) (r : Result Trace ReadError) → IsAnswer bytes r → IsOnlyAnswer bytes r
only_answer bytes r fits speaks_r s speaks_s fits_s =
    same_answer bytes r s (sym (fault_of-answer bytes r speaks_r fits)
    ∙ fault_of-answer bytes s speaks_s fits_s) speaks_r speaks_s fits fits_s

pub only_from_fits : (o : Option (List ℕ)) (r : Result Trace ReadError) → IfSome o (λ bytes. IsAnswer bytes r)
    → IfSome o (λ bytes. IsOnlyAnswer bytes r)
only_from_fits None r fits = tt
only_from_fits (Some bytes) r fits = only_answer bytes r fits

pub silent_fits : (o : Option (List ℕ)) (r : Result Trace ReadError) → is_of_bytes r ≡ false → IfSome o (λ bytes. IsAnswer bytes r)
silent_fits None r silent = tt
silent_fits (Some bytes) (Err errors.Memory) silent = tt
silent_fits (Some bytes) (Err errors.Read) silent = tt
silent_fits (Some bytes) r silent = absurd cc

pub silent_body : (number : Order) (o : Option (List ℕ)) (e : ReadError) → is_of_bytes (Err e) ≡ false
    → IfSome o (λ bytes. IsBodyFault number bytes e)
silent_body number None e silent = tt
silent_body number (Some bytes) errors.Memory silent = tt
silent_body number (Some bytes) errors.Read silent = tt
silent_body number (Some bytes) e silent = absurd cc

-- ---- the result of a reader if a block contains the front of its bytes

fault_fits : (bytes : List ℕ) (e : ReadError) → IsHeaderFault bytes e → IsAnswer bytes (Err e)
fault_fits bytes errors.Header h = h
fault_fits bytes errors.Magic h = h
fault_fits bytes errors.Version h = h
fault_fits bytes errors.LinkType h = h
fault_fits bytes errors.Record h = absurd (header_fault-other (number_order h.0) bytes errors.Record refl h.1)
fault_fits bytes errors.Memory h = tt
fault_fits bytes errors.Read h = tt

known_parts : (held bytes rest : List ℕ) → (r : Receives [] held (Some bytes) (Some rest)) → bytes ≡ held ++ rest
known_parts held bytes rest r = r.2 ∙ ap (λ (t : List ℕ). t ++ rest) (sym r.1)

fault_known : (order : Endianness) (held bytes rest : List ℕ) → Receives [] held (Some bytes) (Some rest)
    → (24 ≤ length held) ⊎ IsAtEnd (Some rest) → header_fault (number_order order) bytes ≡ header_fault (number_order order) held
fault_known order held bytes rest r filled =
    ap (header_fault (number_order order)) (known_parts held bytes rest r)
    ∙ header_fault-known (number_order order) (number_first order) held rest filled

any_fault_known : (held bytes rest : List ℕ) (e : ReadError) → Receives [] held (Some bytes) (Some rest)
    → (24 ≤ length held) ⊎ IsAtEnd (Some rest) → IsHeaderFault held e → IsHeaderFault bytes e
any_fault_known held bytes rest errors.Magic r filled h = λ order. fault_known order held bytes rest r filled ∙ h order
any_fault_known held bytes rest e r filled h = (h.0, fault_known h.0 held bytes rest r filled ∙ h.1)

pub fits_fault : (before left : Option (List ℕ)) (held : List ℕ) (e : ReadError) → Receives [] held before left
    → (24 ≤ length held) ⊎ IsAtEnd left → IsHeaderFault held e
    → IfSome before (λ bytes. IsAnswer bytes (Err e))
fits_fault None left held e r filled fault = tt
fits_fault (Some bytes) None held e r filled fault = absurd r.2
fits_fault (Some bytes) (Some rest) held e r filled fault = fault_fits bytes e (any_fault_known held bytes rest e r filled fault)

body_fits : (order : Endianness) (bytes : List ℕ) (r : Result Trace ReadError) → IsFileHeader (number_order order) bytes
    → IfOk r (λ t. IsBody (number_order order) (drop 24 bytes) t.frames t.skipped (ending_of t.cut))
    → IfErr r (λ e. IsBodyFault (number_order order) (drop 24 bytes) e) → IsAnswer bytes r
body_fits order bytes (Ok t) header ok fault = (order, (header, ok))
body_fits order bytes (Err errors.Record) header ok fault = (order, header, fault)
body_fits order bytes (Err errors.Memory) header ok fault = tt
body_fits order bytes (Err errors.Read) header ok fault = tt
body_fits order bytes (Err errors.Header) header ok fault = absurd fault
body_fits order bytes (Err errors.Magic) header ok fault = absurd fault
body_fits order bytes (Err errors.Version) header ok fault = absurd fault
body_fits order bytes (Err errors.LinkType) header ok fault = absurd fault

told_ok : (number : Order) (r : Result Trace ReadError) (b c : List ℕ) → b ≡ c
    → IfOk r (λ t. IsBody number b t.frames t.skipped (ending_of t.cut))
    → IfOk r (λ t. IsBody number c t.frames t.skipped (ending_of t.cut))
told_ok number r b c is ok = subst (λ (x : List ℕ). IfOk r (λ t. IsBody number x t.frames t.skipped (ending_of t.cut))) is ok

pub fits_body : (order : Endianness) (before left : Option (List ℕ)) (held : List ℕ) (r : Result Trace ReadError)
    → Receives [] held before left → (24 ≤ length held) ⊎ IsAtEnd left
    → header_fault (number_order order) held ≡ None
    → IfOk r (λ t. IfSome (prepend_known (drop 24 held) left)
    (λ bytes. IsBody (number_order order) bytes t.frames t.skipped (ending_of t.cut)))
    → IfErr r (λ e. IfSome (prepend_known (drop 24 held) left) (λ bytes. IsBodyFault (number_order order) bytes e))
    → IfSome before (λ bytes. IsAnswer bytes r)
fits_body order None left held r got filled header ok fault = tt
fits_body order (Some bytes) None held r got filled header ok fault = absurd got.2
fits_body order (Some bytes) (Some rest) held r got filled header ok fault =
    let number = number_order order in
    let held_header = IsFileHeader-from_none number held header in
    let whole = IsFileHeader-from_none number bytes (fault_known order held bytes rest got filled ∙ header) in
    let behind : drop 24 held ++ rest ≡ drop 24 bytes = sym (ap (drop 24) (known_parts held bytes rest got)
    ∙ drop-append-le 24 held rest held_header.long_enough) in
    body_fits order bytes r whole (told_ok number r (drop 24 held ++ rest) (drop 24 bytes) behind ok)
    (subst (λ (x : List ℕ). IfErr r (λ e. IsBodyFault number x e)) behind fault)

pub told_header : (T : Type 0) (bytes : List ℕ) (e : ReadError) (n : ℕ) → IsHeaderFault bytes e → TellsFailure {T = T} (Err e) n n
told_header T bytes errors.Read n h = absurd (header_fault-other (number_order h.0) bytes errors.Read refl h.1)
told_header T bytes e n h = refl

pub passed_long : (order : Endianness) (held : List ℕ) → header_fault (number_order order) held ≡ None → 24 ≤ length held
passed_long order held h = (IsFileHeader-from_none (number_order order) held h).long_enough
