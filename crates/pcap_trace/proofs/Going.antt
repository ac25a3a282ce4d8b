-- The loop of `read_body`, whose block contains the front of the bytes: after a read, after a packet, and at the end.
use Rattle.std.proofs.Common.{◌≡◌, ◌<◌, ◌≤◌, ◌+◌, ◌⊎◌, inl, inr, ℕ, List, [], ◌∷◌, ◌++◌, length, take, drop, Bool, true, false, not, eqb}
use Rattle.std.proofs.Common.{Option, Some, None, sym, ap, subst, ◌∙◌, append-nil, append_assoc, arith}
use Rattle.std.specs.Prelude.{IfSome}
use Rattle.std.specs.Io.KnownBytes.{IsAtEnd, prepend_known}
use Rattle.pcap_trace.specs.Devices.{Receives}
use Rattle.std.proofs.lemmas.List.{nil_from_length, length-append, take-append-le, drop-append-le, length-drop, drop-drop}
use Rattle.std.proofs.lemmas.Bool.{eqb-true, eqb-false}
use Rattle.pcap_trace.specs.Format.{Order, Ending, oversized, ending_of, captured_length, original_length, most_captured, IsRest, IsBody}
use Rattle.pcap_trace.specs.Reading.{HasOversized}
use Rattle.pcap_trace.proofs.Bodies.{ReadsFirst, word-append, GoesOn, GoesOn-kept, GoesOn-skipped, GoesOn-ends}

-- `GoesOn` for bytes that may be unknown
abbrev pub GoesOnKnown : Order → Option (List ℕ) → Option (List ℕ) → List (List ℕ) → ℕ → Type 0
GoesOnKnown number None rest frames skipped = Unit {0}
GoesOnKnown number (Some bytes) None frames skipped = ⊥
GoesOnKnown number (Some bytes) (Some rest) frames skipped = GoesOn number bytes rest frames skipped

pub GoesOnKnown-read : (number : Order) (a before after : Option (List ℕ)) (old new : List ℕ) (frames : List (List ℕ)) (skipped : ℕ)
    → Receives old new before after
    → GoesOnKnown number a (prepend_known old before) frames skipped → GoesOnKnown number a (prepend_known new after) frames skipped
GoesOnKnown-read number None before after old new frames skipped r so_far = tt
GoesOnKnown-read number (Some bytes) None after old new frames skipped r so_far = absurd so_far
GoesOnKnown-read number (Some bytes) (Some left) None old new frames skipped r so_far = absurd r.2
GoesOnKnown-read number (Some bytes) (Some left) (Some rest) old new frames skipped r so_far =
    let same : old ++ left ≡ new ++ rest = ap (λ (t : List ℕ). old ++ t) r.2 ∙ sym (append_assoc old r.0 rest)
    ∙ ap (λ (t : List ℕ). t ++ rest) (sym r.1) in
    subst (λ (x : List ℕ). GoesOn number bytes x frames skipped) same so_far

pub word-read : (number : Order) → ReadsFirst number → (at : ℕ) (old new : List ℕ) (before after : Option (List ℕ)) → at + 4 ≤ length old
    → Receives old new before after → number 4 (drop at new) ≡ number 4 (drop at old)
word-read number first at old new before after long r = ap (λ (t : List ℕ). number 4 (drop at t)) r.1
    ∙ word-append number first at old r.0 long

-- ---- a packet in the block

rest_behind : (n : ℕ) (held left : List ℕ) → 16 + n ≤ length held → drop n (drop 16 (held ++ left)) ≡ drop (16 + n) held ++ left
rest_behind n held left long =
    ap (drop n) (drop-append-le 16 held left (omega arith)) ∙ drop-append-le n (drop 16 held) left (omega (arith, length-drop 16 held))
    ∙ ap (λ (x : List ℕ). x ++ left) (drop-drop n 16 held)

text_within : (n : ℕ) (held left : List ℕ) → 16 + n ≤ length held → take n (drop 16 (held ++ left)) ≡ take n (drop 16 held)
text_within n held left long =
    ap (take n) (drop-append-le 16 held left (omega arith)) ∙ take-append-le n (drop 16 held) left (omega (arith, length-drop 16 held))

-- a step over a packet of n captured bytes at the front of the block, for bytes that may be unknown
passed : (number : Order) (a left : Option (List ℕ)) (held : List ℕ) (frames more : List (List ℕ)) (skipped others n : ℕ)
    → 16 + n ≤ length held
    → ((bytes left : List ℕ) → GoesOn number bytes (held ++ left) frames skipped
    → GoesOn number bytes (drop n (drop 16 (held ++ left))) more others)
    → GoesOnKnown number a (prepend_known held left) frames skipped
    → GoesOnKnown number a (prepend_known (drop (16 + n) held) left) more others
passed number None left held frames more skipped others n long step so_far = tt
passed number (Some bytes) None held frames more skipped others n long step so_far = absurd so_far
passed number (Some bytes) (Some left) held frames more skipped others n long step so_far =
    subst (λ (x : List ℕ). GoesOn number bytes x more others) (rest_behind n held left long) (step bytes left so_far)

pub GoesOnKnown-kept : (number : Order) → ReadsFirst number
    → (a left : Option (List ℕ)) (held : List ℕ) (frames : List (List ℕ)) (skipped n : ℕ) → n ≡ captured_length number held
    → n ≤ most_captured
    → 16 + n ≤ length held → original_length number held ≤ n → GoesOnKnown number a (prepend_known held left) frames skipped
    → GoesOnKnown number a (prepend_known (drop (16 + n) held) left) (frames ++ take n (drop 16 held) ∷ []) skipped
GoesOnKnown-kept number first a left held frames skipped n told short long all =
    passed number a left held frames (frames ++ take n (drop 16 held) ∷ []) skipped skipped n long (λ bytes after so_far.
    let at8 = word-append number first 8 held after (omega arith) in
    let at12 = word-append number first 12 held after (omega arith) in
    let next = GoesOn-kept number first bytes (held ++ after) frames skipped n (told ∙ sym at8) short
    (omega (arith, length-append held after)) (omega (arith, at12)) so_far in
    subst (λ (t : List ℕ). GoesOn number bytes (drop n (drop 16 (held ++ after))) (frames ++ t ∷ []) skipped)
    (text_within n held after long) next)

pub GoesOnKnown-skipped : (number : Order) → ReadsFirst number
    → (a left : Option (List ℕ)) (held : List ℕ) (frames : List (List ℕ)) (skipped n : ℕ) → n ≡ captured_length number held
    → n ≤ most_captured
    → 16 + n ≤ length held → n < original_length number held → GoesOnKnown number a (prepend_known held left) frames skipped
    → GoesOnKnown number a (prepend_known (drop (16 + n) held) left) frames (skipped + 1)
GoesOnKnown-skipped number first a left held frames skipped n told short long some =
    passed number a left held frames frames skipped (skipped + 1) n long (λ bytes after.
    let at8 = word-append number first 8 held after (omega arith) in
    let at12 = word-append number first 12 held after (omega arith) in
    GoesOn-skipped number first bytes (held ++ after) frames skipped n (told ∙ sym at8) short
    (omega (arith, length-append held after)) (omega (arith, at12)))

-- ---- the end

rest_short : (number : Order) (held : List ℕ) (empty : Bool) → empty ≡ eqb (length held) 0 → length held < 16
    → IsRest number held (ending_of (not empty))
rest_short number held true is short = nil_from_length held (eqb-true _ _ (sym is))
rest_short number held false is short = inl (omega (arith, eqb-false _ _ (sym is)), short)

rest_cut : (number : Order) (held : List ℕ) (empty : Bool) (n : ℕ) → empty ≡ eqb (length held) 0 → n ≡ captured_length number held
    → 16 ≤ length held → n ≤ most_captured → length held < 16 + n
    → IsRest number held (ending_of (not empty))
rest_cut number held true n is told long short cut = absurd (omega (arith, eqb-true _ _ (sym is)))
rest_cut number held false n is told long short cut = inr (long, omega arith, omega arith)

ends : (number : Order) (a left : Option (List ℕ)) (held : List ℕ) (frames : List (List ℕ)) (skipped : ℕ) (e : Ending) → IsAtEnd left
    → IsRest number held e
    → GoesOnKnown number a (prepend_known held left) frames skipped → IfSome a (λ bytes. IsBody number bytes frames skipped e)
ends number None left held frames skipped e none rest so_far = tt
ends number (Some bytes) None held frames skipped e none rest so_far = absurd so_far
ends number (Some bytes) (Some left) held frames skipped e none rest so_far =
    let all : held ++ left ≡ held = ap (λ (x : List ℕ). held ++ x) none ∙ append-nil held in
    GoesOn-ends number bytes held frames skipped e rest (subst (λ (x : List ℕ). GoesOn number bytes x frames skipped) all so_far)

pub ends_short : (number : Order) (a left : Option (List ℕ)) (held : List ℕ) (frames : List (List ℕ)) (skipped : ℕ) (empty : Bool)
    → empty ≡ eqb (length held) 0 → length held < 16 → (16 ≤ length held) ⊎ IsAtEnd left
    → GoesOnKnown number a (prepend_known held left) frames skipped
    → IfSome a (λ bytes. IsBody number bytes frames skipped (ending_of (not empty)))
ends_short number a left held frames skipped empty is short filled so_far =
    elim filled [
      | inl long ↦ absurd (omega arith)
      | inr none ↦ ends number a left held frames skipped (ending_of (not empty)) none (rest_short number held empty is short) so_far
    ]

pub ends_cut : (number : Order) (a left : Option (List ℕ)) (held : List ℕ) (frames : List (List ℕ)) (skipped : ℕ) (empty : Bool) (n : ℕ)
    → empty ≡ eqb (length held) 0 → n ≡ captured_length number held → 16 ≤ length held
    → n ≤ most_captured → length held < 16 + n → (16 + n ≤ length held) ⊎ IsAtEnd left
    → GoesOnKnown number a (prepend_known held left) frames skipped
    → IfSome a (λ bytes. IsBody number bytes frames skipped (ending_of (not empty)))
ends_cut number a left held frames skipped empty n is told long short cut filled so_far =
    elim filled [
      | inl all ↦ absurd (omega arith)
      | inr none ↦ ends number a left held frames skipped (ending_of (not empty)) none
          (rest_cut number held empty n is told long short cut) so_far
    ]

pub ends_oversized : (number : Order) → ReadsFirst number
    → (a left : Option (List ℕ)) (held : List ℕ) (frames : List (List ℕ)) (skipped n : ℕ) → n ≡ captured_length number held
    → 16 ≤ length held → most_captured < n
    → GoesOnKnown number a (prepend_known held left) frames skipped → IfSome a (λ bytes. HasOversized number bytes)
ends_oversized number first None left held frames skipped n told long big so_far = tt
ends_oversized number first (Some bytes) None held frames skipped n told long big so_far = absurd so_far
ends_oversized number first (Some bytes) (Some left) held frames skipped n told long big so_far =
    let at8 = word-append number first 8 held left (omega arith) in
    let rest : IsRest number (held ++ left) oversized = (omega (arith, length-append held left), omega (arith, at8)) in
    (frames, skipped, GoesOn-ends number bytes (held ++ left) frames skipped oversized rest so_far)
