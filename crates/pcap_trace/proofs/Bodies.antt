-- Packets in order, and a loop over them.
use Rattle.std.proofs.Common.{◌≡◌, ◌<◌, ◌≤◌, ◌+◌, ℕ, suc, List, [], ◌∷◌, ◌++◌, length, take, drop, true, false, refl, sym, ap, subst, ◌∙◌}
use Rattle.std.proofs.Common.{append_assoc, arith}
use Rattle.std.specs.List.{flat_map}
use Rattle.std.proofs.lemmas.List.{take-append-drop, append-nil, length-take-le, length-drop, drop-append-le}
use Rattle.std.proofs.lemmas.List.Concat.{flat_map-cons}
use Rattle.std.proofs.lemmas.Bool.{le-ltb, lt-ltb}
use Rattle.pcap_trace.specs.Format.{Order, Packet, Ending, captured_length, original_length, most_captured, packet_bytes, IsPacket}
use Rattle.pcap_trace.specs.Format.{is_partial, IsRest, IsBody}

-- ---- numbers in the bytes of a header

-- the number in the first n bytes of a list doesn't depend on the bytes after them
abbrev pub ReadsFirst : Order → Type 0
ReadsFirst number = (n : ℕ) (xs ys : List ℕ) → n ≤ length xs → number n (xs ++ ys) ≡ number n xs

pub word-append : (number : Order) → ReadsFirst number → (at : ℕ) (header rest : List ℕ) → at + 4 ≤ length header
    → number 4 (drop at (header ++ rest)) ≡ number 4 (drop at header)
word-append number first at header rest long =
    ap (number 4) (drop-append-le at header rest (omega arith)) ∙ first 4 (drop at header) rest (omega (arith, length-drop at header))

-- ---- the packet at the front

abbrev pub packet_at : ℕ → List ℕ → Packet
packet_at n bytes = record { header = take 16 bytes; captured = take n (drop 16 bytes) }

packet_at-parts : (n : ℕ) (bytes : List ℕ) → bytes ≡ packet_bytes (packet_at n bytes) ++ drop n (drop 16 bytes)
packet_at-parts n bytes =
    sym (take-append-drop 16 bytes) ∙ ap (λ (x : List ℕ). take 16 bytes ++ x) (sym (take-append-drop n (drop 16 bytes)))
    ∙ sym (append_assoc (take 16 bytes) (take n (drop 16 bytes)) (drop n (drop 16 bytes)))

word-packet_at : (number : Order) → ReadsFirst number → (at : ℕ) (bytes : List ℕ) → 16 ≤ length bytes → at + 4 ≤ 16
    → number 4 (drop at (take 16 bytes)) ≡ number 4 (drop at bytes)
word-packet_at number first at bytes long within =
    sym (word-append number first at (take 16 bytes) (drop 16 bytes) (omega (arith, length-take-le 16 bytes long)))
    ∙ ap (λ (x : List ℕ). number 4 (drop at x)) (take-append-drop 16 bytes)

packet_at-whole : (number : Order) → ReadsFirst number → (n : ℕ) (bytes : List ℕ) → n ≡ captured_length number bytes → n ≤ most_captured
    → 16 + n ≤ length bytes → IsPacket number (packet_at n bytes)
packet_at-whole number first n bytes told short long =
    let len : length (take n (drop 16 bytes)) ≡ n = length-take-le n (drop 16 bytes) (omega (arith, length-drop 16 bytes)) in
    record {
      header_length = length-take-le 16 bytes (omega arith);
      captured_is = len ∙ told ∙ sym (word-packet_at number first 8 bytes (omega arith) (omega arith));
      short_enough = omega (arith, len);
    }

-- ---- a packet in front of a body

regroup : (p : Packet) (ps : List Packet) (bytes rest : List ℕ) → bytes ≡ flat_map packet_bytes ps ++ rest
    → packet_bytes p ++ bytes ≡ flat_map packet_bytes (p ∷ ps) ++ rest
regroup p ps bytes rest parts =
    ap (λ (x : List ℕ). packet_bytes p ++ x) parts ∙ sym (append_assoc (packet_bytes p) (flat_map packet_bytes ps) rest)
    ∙ ap (λ (x : List ℕ). x ++ rest) (sym (flat_map-cons packet_bytes p ps))

IsBody-kept : (number : Order) (p : Packet) (bytes : List ℕ) (frames : List (List ℕ)) (skipped : ℕ) (e : Ending) → IsPacket number p
    → is_partial number p ≡ false
    → IsBody number bytes frames skipped e → IsBody number (packet_bytes p ++ bytes) (p.captured ∷ frames) skipped e
IsBody-kept number p bytes frames skipped e whole kept b = record {
  packets = p ∷ b.packets;
  rest = b.rest;
  parts = regroup p b.packets bytes b.rest b.parts;
  whole = (whole, b.whole);
  frames_are = rw kept (ap (λ (x : List (List ℕ)). p.captured ∷ x) b.frames_are);
  skipped_are = rw kept b.skipped_are;
  ends = b.ends;
}

IsBody-skipped : (number : Order) (p : Packet) (bytes : List ℕ) (frames : List (List ℕ)) (skipped : ℕ) (e : Ending) → IsPacket number p
    → is_partial number p ≡ true
    → IsBody number bytes frames skipped e → IsBody number (packet_bytes p ++ bytes) frames (suc skipped) e
IsBody-skipped number p bytes frames skipped e whole partial b = record {
  packets = p ∷ b.packets;
  rest = b.rest;
  parts = regroup p b.packets bytes b.rest b.parts;
  whole = (whole, b.whole);
  frames_are = rw partial b.frames_are;
  skipped_are = rw partial (ap suc b.skipped_are);
  ends = b.ends;
}

-- ---- a loop

-- If `rest` is a body, `bytes` are a body with the frames `frames` before its frames, and with `skipped` more skipped packets.
abbrev pub GoesOn : Order → List ℕ → List ℕ → List (List ℕ) → ℕ → Type 0
GoesOn number bytes rest frames skipped =
    (more : List (List ℕ)) (others : ℕ) (e : Ending) → IsBody number rest more others e
    → IsBody number bytes (frames ++ more) (skipped + others) e

pub GoesOn-kept : (number : Order) → ReadsFirst number → (bytes rest : List ℕ) (frames : List (List ℕ)) (skipped n : ℕ)
    → n ≡ captured_length number rest → n ≤ most_captured → 16 + n ≤ length rest
    → original_length number rest ≤ n → GoesOn number bytes rest frames skipped
    → GoesOn number bytes (drop n (drop 16 rest)) (frames ++ take n (drop 16 rest) ∷ []) skipped
GoesOn-kept number first bytes rest frames skipped n told short long all so_far more others e b =
    let p = packet_at n rest in
    let at8 = word-packet_at number first 8 rest (omega arith) (omega arith) in
    let at12 = word-packet_at number first 12 rest (omega arith) (omega arith) in
    let kept : is_partial number p ≡ false = le-ltb _ _ (omega (arith, at8, at12)) in
    let one : IsBody number rest (p.captured ∷ more) others e =
    rw (← packet_at-parts n rest) at
    (IsBody-kept number p (drop n (drop 16 rest)) more others e (packet_at-whole number first n rest told short long) kept b) in
    rw append_assoc (so_far (p.captured ∷ more) others e one)

pub GoesOn-skipped : (number : Order) → ReadsFirst number → (bytes rest : List ℕ) (frames : List (List ℕ)) (skipped n : ℕ)
    → n ≡ captured_length number rest → n ≤ most_captured → 16 + n ≤ length rest
    → n < original_length number rest → GoesOn number bytes rest frames skipped
    → GoesOn number bytes (drop n (drop 16 rest)) frames (skipped + 1)
GoesOn-skipped number first bytes rest frames skipped n told short long some so_far more others e b =
    let p = packet_at n rest in
    let at8 = word-packet_at number first 8 rest (omega arith) (omega arith) in
    let at12 = word-packet_at number first 12 rest (omega arith) (omega arith) in
    let partial : is_partial number p ≡ true = lt-ltb _ _ (omega (arith, at8, at12)) in
    let one : IsBody number rest more (suc others) e =
    rw (← packet_at-parts n rest) at
    (IsBody-skipped number p (drop n (drop 16 rest)) more others e (packet_at-whole number first n rest told short long) partial b) in
    let sum : skipped + suc others ≡ skipped + 1 + others = omega arith in
    subst (λ (m : ℕ). IsBody number bytes (frames ++ more) m e) sum (so_far more (suc others) e one)

pub GoesOn-ends : (number : Order) (bytes rest : List ℕ) (frames : List (List ℕ)) (skipped : ℕ) (e : Ending) → IsRest number rest e
    → GoesOn number bytes rest frames skipped → IsBody number bytes frames skipped e
GoesOn-ends number bytes rest frames skipped e ends so_far =
    let last : IsBody number rest [] 0 e = record
    { packets = []; rest = rest; parts = refl; whole = tt; frames_are = refl; skipped_are = refl; ends = ends } in
    let all = so_far [] 0 e last in
    subst (λ (m : ℕ). IsBody number bytes frames m e) (omega arith)
    (subst (λ (fs : List (List ℕ)). IsBody number bytes fs (skipped + 0) e) (append-nil frames) all)
