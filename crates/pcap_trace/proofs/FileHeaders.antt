-- A file header, and the first of its faults.
use Rattle.std.proofs.Common.{◌≡◌, ◌≤◌, ◌+◌, ◌⊎◌, inl, inr, ℕ, List, [], ◌++◌, length, drop, Bool, true, false, not, ◌&&◌, Option, Some}
use Rattle.std.proofs.Common.{None, refl, sym, ap, ◌∙◌, append-nil, arith}
use Rattle.std.specs.Prelude.{◌==◌, nat_lt, if◌then◌else◌}
use Rattle.std.proofs.lemmas.List.{length-append, length-drop, drop-append-le}
use Rattle.std.proofs.lemmas.Bool.{le-ltb, eqb-true, ltb-false}
use Rattle.pcap_trace.specs.declared.fault.ReadError.{ReadError}
use Rattle.pcap_trace.specs.declared.fault.ReadError.TheVariants as errors
use Rattle.byteorder.specs.Endian.{big_number, little_number}
use Rattle.pcap_trace.specs.declared.header.Endianness.{Endianness}
use Rattle.pcap_trace.specs.declared.header.Endianness.TheVariants.{Big, Little}
use Rattle.pcap_trace.specs.Format.{Order, number_order, is_magic, IsFileHeader}
use Rattle.pcap_trace.specs.Reading.{header_fault, IsHeaderFault}
use Rattle.pcap_trace.proofs.Bodies.{ReadsFirst}
use Rattle.pcap_trace.proofs.Orders.{both_orders}

-- the first fault of a header, by the results of its tests
abbrev first_fault : Bool → Bool → Bool → Bool → Bool → Option ReadError
first_fault short magic_is major_is minor_is link_is =
    if short then Some errors.Header
    else (if not magic_is then Some errors.Magic
    else (if not (major_is && minor_is) then Some errors.Version
    else (if not link_is then Some errors.LinkType
    else None)))

all_pass : (a b c d e : Bool) → first_fault a b c d e ≡ None → (a ≡ false) × (b ≡ true) × (c ≡ true) × (d ≡ true) × (e ≡ true)
all_pass true b c d e h = absurd cc
all_pass false false c d e h = absurd cc
all_pass false true false d e h = absurd cc
all_pass false true true false e h = absurd cc
all_pass false true true true false h = absurd cc
all_pass false true true true true h = (refl, refl, refl, refl, refl)

-- whether a file header can have this fault, or none
abbrev pub is_of_header : Option ReadError → Bool
is_of_header (Some errors.Record) = false
is_of_header (Some errors.Memory) = false
is_of_header (Some errors.Read) = false
is_of_header _ = true

first_of_header : (a b c d e : Bool) → is_of_header (first_fault a b c d e) ≡ true
first_of_header true b c d e = refl
first_of_header false false c d e = refl
first_of_header false true false d e = refl
first_of_header false true true false e = refl
first_of_header false true true true false = refl
first_of_header false true true true true = refl

-- the first fault in one byte order if the first word is a magic number in this order, otherwise the first fault in the other order
abbrev told : Bool → Bool → Bool → Bool → Bool → Bool → Bool → Bool → Bool → Option ReadError
told short a b c d e f g h = if a then first_fault short a b c d else first_fault short e f g h

told_first : (short a b c d e f g h : Bool) (x : Option ReadError) → first_fault short a b c d ≡ x → (x ≡ Some errors.Magic → ⊥)
    → told short a b c d e f g h ≡ x
told_first short true b c d e f g h x is other = is
told_first true false b c d e f g h x is other = is
told_first false false b c d e f g h x is other = absurd (other (sym is))

told_second : (short a b c d e f g h : Bool) (x : Option ReadError) → (a ≡ true → e ≡ true → ⊥) → first_fault short e f g h ≡ x
    → (x ≡ Some errors.Magic → ⊥) → told short a b c d e f g h ≡ x
told_second short false b c d e f g h x apart is other = is
told_second true true b c d e f g h x apart is other = is
told_second false true b c d true f g h x apart is other = absurd (apart refl refl)
told_second false true b c d false f g h x apart is other = absurd (other (sym is))

told_same : (a : Bool) (x y z : Option ReadError) → x ≡ z → y ≡ z → (if a then x else y) ≡ z
told_same true x y z p q = p
told_same false x y z p q = q

-- the fault in little-endian order if the first word is a magic number in this order, otherwise the fault in big-endian order
abbrev pub told_fault : List ℕ → Option ReadError
told_fault bytes = if is_magic (little_number 4 bytes) then header_fault little_number bytes else header_fault big_number bytes

pub told_fault-magic : (bytes : List ℕ) → ((order : Endianness) → header_fault (number_order order) bytes ≡ Some errors.Magic)
    → told_fault bytes ≡ Some errors.Magic
told_fault-magic bytes h = told_same (is_magic (little_number 4 bytes)) (header_fault little_number bytes) (header_fault big_number bytes)
    (Some errors.Magic) (h Little) (h Big)

pub told_fault-in : (order : Endianness) (bytes : List ℕ) (x : Option ReadError) → header_fault (number_order order) bytes ≡ x
    → (x ≡ Some errors.Magic → ⊥) → told_fault bytes ≡ x
told_fault-in Little bytes x is other =
    told_first (nat_lt (length bytes) 24) (is_magic (little_number 4 bytes)) (little_number 2 (drop 4 bytes) == 2)
    (little_number 2 (drop 6 bytes) == 4) (little_number 4 (drop 20 bytes) == 1)
    (is_magic (big_number 4 bytes)) (big_number 2 (drop 4 bytes) == 2) (big_number 2 (drop 6 bytes) == 4)
    (big_number 4 (drop 20 bytes) == 1) x is other
told_fault-in Big bytes x is other =
    told_second (nat_lt (length bytes) 24) (is_magic (little_number 4 bytes)) (little_number 2 (drop 4 bytes) == 2)
    (little_number 2 (drop 6 bytes) == 4) (little_number 4 (drop 20 bytes) == 1)
    (is_magic (big_number 4 bytes)) (big_number 2 (drop 4 bytes) == 2) (big_number 2 (drop 6 bytes) == 4)
    (big_number 4 (drop 20 bytes) == 1) x (both_orders bytes) is other

pub header_fault-in : (order : Endianness) (bytes : List ℕ) (e : ReadError) → (e ≡ errors.Magic → ⊥)
    → header_fault (number_order order) bytes ≡ Some e → IsHeaderFault bytes e
header_fault-in order bytes errors.Magic other is = absurd (other refl)
header_fault-in order bytes e other is = (order, is)

pub header_fault-other : (number : Order) (bytes : List ℕ) (e : ReadError) → is_of_header (Some e) ≡ false
    → header_fault number bytes ≡ Some e → ⊥
header_fault-other number bytes e other h =
    let is : is_of_header (header_fault number bytes) ≡ true = first_of_header (nat_lt (length bytes) 24) (is_magic (number 4 bytes))
    (number 2 (drop 4 bytes) == 2) (number 2 (drop 6 bytes) == 4) (number 4 (drop 20 bytes) == 1) in
    let known : is_of_header (Some e) ≡ true = sym (ap is_of_header h) ∙ is in
    cc

pub IsFileHeader-from_none : (number : Order) (bytes : List ℕ) → header_fault number bytes ≡ None → IsFileHeader number bytes
IsFileHeader-from_none number bytes h =
    let pass = all_pass (nat_lt (length bytes) 24) (is_magic (number 4 bytes)) (number 2 (drop 4 bytes) == 2) (number 2 (drop 6 bytes) == 4)
    (number 4 (drop 20 bytes) == 1) h in
    record {
      long_enough = ltb-false _ _ pass.0;
      magic_is = pass.1;
      major_is = eqb-true _ _ pass.2;
      minor_is = eqb-true _ _ pass.3;
      link_type_is = eqb-true _ _ pass.4;
    }

pub header_fault-none : (number : Order) (bytes : List ℕ) → IsFileHeader number bytes → header_fault number bytes ≡ None
header_fault-none number bytes h =
    let long : nat_lt (length bytes) 24 ≡ false = le-ltb _ _ h.long_enough in
    rw (long, h.magic_is, h.major_is, h.minor_is, h.link_type_is) refl

header_fault-append : (number : Order) → ReadsFirst number → (held rest : List ℕ) → 24 ≤ length held
    → header_fault number (held ++ rest) ≡ header_fault number held
header_fault-append number first held rest long =
    let one : nat_lt (length (held ++ rest)) 24 ≡ false = le-ltb _ _ (omega (arith, length-append held rest)) in
    let two : nat_lt (length held) 24 ≡ false = le-ltb _ _ long in
    let word : (n at : ℕ) → at + n ≤ 24 → number n (drop at (held ++ rest)) ≡ number n (drop at held) =
    λ n at within. ap (number n) (drop-append-le at held rest (omega arith))
    ∙ first n (drop at held) rest (omega (arith, length-drop at held)) in
    let at0 : number 4 (held ++ rest) ≡ number 4 held = first 4 held rest (omega arith) in
    let at4 = word 2 4 (omega arith) in
    let at6 = word 2 6 (omega arith) in
    let at20 = word 4 20 (omega arith) in
    rw (one, two, at0, at4, at6, at20) refl

pub header_fault-known : (number : Order) → ReadsFirst number → (held rest : List ℕ) → (24 ≤ length held) ⊎ (rest ≡ [])
    → header_fault number (held ++ rest) ≡ header_fault number held
header_fault-known number first held rest filled =
    elim filled [
      | inl long ↦ header_fault-append number first held rest long
      | inr none ↦ ap (header_fault number) (ap (λ (x : List ℕ). held ++ x) none ∙ append-nil held)
    ]
