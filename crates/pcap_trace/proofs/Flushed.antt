-- Bytes that wait in a block, and are then written.
use Rattle.std.proofs.Common.{◌≡◌, ◌≤◌, ◌+◌, ◌-◌, ℕ, List, [], ◌++◌, length, take, drop, Option, Some, None, refl, sym, ap, subst, ◌∙◌}
use Rattle.std.proofs.Common.{append_assoc, append-nil, take-append-drop, arith}
use Rattle.std.specs.Io.KnownBytes.{Appends, append_known}
use Rattle.std.proofs.KnownBytes.{Appends-nil, Appends-trans}
use Rattle.std.proofs.lemmas.List.{length-append, take_at}
use Rattle.pcap_trace.specs.Devices.{AppendsFront, Grows}
use Rattle.pcap_trace.specs.declared.unit.Unit.{Unit}
use Rattle.pcap_trace.specs.Format.{file_header, written}
use Rattle.pcap_trace.proofs.Sent.{AppendsFront-longer, take-past}

pub flushed : (before mid after : Option (List ℕ)) (waiting all : List ℕ) → Appends before (append_known mid waiting) all
    → Appends mid after waiting → Appends before after all
flushed None mid after waiting all h k = tt
flushed (Some xs) None after waiting all h k = absurd h
flushed (Some xs) (Some ys) None waiting all h k = absurd k
flushed (Some xs) (Some ys) (Some zs) waiting all h k = k ∙ h

front_of : (n : ℕ) (xs ys waiting all : List ℕ) → ys ++ waiting ≡ xs ++ all → length xs ≤ length ys → (m : ℕ)
    × (ys ++ take n waiting ≡ xs ++ take m all)
front_of n xs ys waiting all is longer =
    let w = take n waiting in
    let m = length (ys ++ w) - length xs in
    let split : waiting ≡ w ++ drop n waiting = sym (take-append-drop n waiting) in
    let whole : xs ++ all ≡ (ys ++ w) ++ drop n waiting = sym is ∙ ap (λ (t : List ℕ). ys ++ t) split
    ∙ sym (append_assoc ys w (drop n waiting)) in
    let len : length (ys ++ w) ≡ length xs + m = omega (arith, length-append ys w) in
    let left : take (length (ys ++ w)) (xs ++ all) ≡ ys ++ w = ap (take (length (ys ++ w))) whole
    ∙ take_at (ys ++ w) (drop n waiting) (length (ys ++ w)) refl in
    let right : take (length xs + m) (xs ++ all) ≡ xs ++ take m all = take-past m xs all in
    (m, sym left ∙ ap (λ (k : ℕ). take k (xs ++ all)) len ∙ right)

pub flushed_front : (before mid after : Option (List ℕ)) (waiting all : List ℕ) → Grows before mid
    → Appends before (append_known mid waiting) all → AppendsFront mid after waiting → AppendsFront before after all
flushed_front None mid after waiting all grown h k = (0, tt)
flushed_front (Some xs) None after waiting all grown h k = absurd h
flushed_front (Some xs) (Some ys) None waiting all grown h k = absurd k.1
flushed_front (Some xs) (Some ys) (Some zs) waiting all grown h k =
    let longer : length xs ≤ length ys = omega (arith, ap length grown.1, length-append xs grown.0) in
    let f = front_of k.0 xs ys waiting all h longer in
    (f.0, k.1 ∙ f.1)

waits : (a : Option (List ℕ)) (more : List ℕ) → Appends a (append_known a more) (more ++ [])
waits None more = tt
waits (Some xs) more = ap (λ (t : List ℕ). xs ++ t) (sym (append-nil more))

pub Grows-none : (a : Option (List ℕ)) → Grows a a
Grows-none a = ([], Appends-nil a)

pub Grows-more : (a b c : Option (List ℕ)) → Grows a b → Grows b c → Grows a c
Grows-more a b c g h = (g.0 ++ h.0, Appends-trans a b c g.0 h.0 g.1 h.1)

pub header_waits : (unit : Unit) (a : Option (List ℕ)) (waiting : List ℕ) → waiting ≡ file_header unit
    → Appends a (append_known a waiting) (written unit [])
header_waits unit a waiting is = subst (λ (w : List ℕ). Appends a (append_known a w) (written unit [])) (sym is)
    (waits a (file_header unit))

-- The bytes `bytes` were written, except those at their end that still wait.
pub record GoesOut (before now : Option (List ℕ)) (waiting bytes : List ℕ) : Type 0 where
  pub grown : Grows before now
  pub went : Appends before (append_known now waiting) bytes

pub goes-header : (unit : Unit) (a : Option (List ℕ)) (waiting : List ℕ) → waiting ≡ file_header unit
    → GoesOut a a waiting (written unit [])
goes-header unit a waiting is = record { grown = Grows-none a; went = header_waits unit a waiting is }

pub goes-more : (a b d : Option (List ℕ)) (waiting later bytes more : List ℕ) → GoesOut a b waiting bytes
    → Appends (append_known b waiting) (append_known d later) more → Grows b d → GoesOut a d later (bytes ++ more)
goes-more a b d waiting later bytes more out went grown = record {
  grown = Grows-more a b d out.grown grown;
  went = Appends-trans a (append_known b waiting) (append_known d later) bytes more out.went went;
}

pub goes-stops : (a b d : Option (List ℕ)) (waiting bytes rest : List ℕ) → GoesOut a b waiting bytes → AppendsFront b d waiting
    → AppendsFront a d (bytes ++ rest)
goes-stops a b d waiting bytes rest out front =
    AppendsFront-longer a d bytes rest (flushed_front a b d waiting bytes out.grown out.went front)

pub goes-ends : (a b d : Option (List ℕ)) (waiting bytes : List ℕ) → GoesOut a b waiting bytes → Appends b d waiting → Appends a d bytes
goes-ends a b d waiting bytes out went = flushed a b d waiting bytes out.went went
