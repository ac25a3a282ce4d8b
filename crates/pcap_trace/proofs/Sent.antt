-- Bytes that are written to a sink in pieces.
use Rattle.std.proofs.Common.{◌≡◌, ◌+◌, ℕ, List, [], ◌∷◌, ◌++◌, length, take, drop, Option, refl, sym, ap, ◌∙◌, append_assoc}
use Rattle.std.proofs.Common.{take-append-drop, zero-add, suc-add}
use Rattle.std.proofs.lemmas.List.{take_at}
use Rattle.std.specs.Io.KnownBytes.{Appends, Keeps}
use Rattle.std.proofs.KnownBytes.{Appends-trans, Appends-kept}
use Rattle.pcap_trace.specs.Devices.{AppendsFront}

-- ---- beginnings

pub AppendsFront-whole : (a b : Option (List ℕ)) (x y : List ℕ) → Appends a b x → AppendsFront a b (x ++ y)
AppendsFront-whole a b x y went = (length x, rw (take_at x y (length x) refl) went)

pub take-past : (n : ℕ) (x y : List ℕ) → take (length x + n) (x ++ y) ≡ x ++ take n y
take-past n [] y = rw zero-add refl
take-past n (z ∷ x) y = rw suc-add (ap (λ (t : List ℕ). z ∷ t) (take-past n x y))

pub AppendsFront-then : (a b c : Option (List ℕ)) (x y : List ℕ) → Appends a b x → AppendsFront b c y → AppendsFront a c (x ++ y)
AppendsFront-then a b c x y went more = (length x + more.0, rw take-past (Appends-trans a b c x (take more.0 y) went more.1))

take-longer : (n : ℕ) (x y : List ℕ) → take n x ≡ take (length (take n x)) (x ++ y)
take-longer n x y =
    let f = take n x in
    sym (ap (λ (t : List ℕ). take (length f) (t ++ y)) (sym (take-append-drop n x)) ∙ ap (take (length f)) (append_assoc f (drop n x) y)
    ∙ take_at f (drop n x ++ y) (length f) refl)

pub AppendsFront-longer : (a b : Option (List ℕ)) (x y : List ℕ) → AppendsFront a b x → AppendsFront a b (x ++ y)
AppendsFront-longer a b x y went = (length (take went.0 x), rw (← take-longer went.0 x y) went.1)

-- ---- a slice that is written piece by piece

-- a front of these bytes was written, and the rest is still to be written
abbrev pub SentUpTo : Option (List ℕ) → Option (List ℕ) → List ℕ → List ℕ → Type 0
SentUpTo a b bytes rest = (front : List ℕ) × (bytes ≡ front ++ rest) × Appends a b front

pub SentUpTo-more : (a b c : Option (List ℕ)) (bytes rest : List ℕ) (n : ℕ) → SentUpTo a b bytes rest → Appends b c (take n rest)
    → SentUpTo a c bytes (drop n rest)
SentUpTo-more a b c bytes rest n sent more = (
  sent.0 ++ take n rest,
  sent.1 ∙ ap (λ (t : List ℕ). sent.0 ++ t) (sym (take-append-drop n rest)) ∙ sym (append_assoc sent.0 (take n rest) (drop n rest)),
  Appends-trans a b c sent.0 (take n rest) sent.2 more,
)

pub SentUpTo-front : (a b c : Option (List ℕ)) (bytes rest : List ℕ) → Keeps b c → SentUpTo a b bytes rest → AppendsFront a c bytes
SentUpTo-front a b c bytes rest kept sent = rw sent.1 (AppendsFront-whole a c sent.0 rest (Appends-kept a b c sent.0 sent.2 kept))
