-- A source of the first bytes of a reader, up to a limit.
use Rattle.std.proofs.Common.{◌≡◌, ◌<◌, ◌≤◌, ◌+◌, ◌-◌, ℕ, zero, suc, min, List, [], ◌++◌, length, take, drop, Option, Some, None, refl, sym}
use Rattle.std.proofs.Common.{ap, ◌∙◌, arith}
use Rattle.std.specs.Io.KnownBytes.{Consumes, IsAtEnd}
use Rattle.std.proofs.lemmas.List.{take-append-le, length-take-le}
use Rattle.std.proofs.Math.Seq.{take-add}
use Rattle.std.proofs.lemmas.List.{take_at, drop_at}
use Rattle.pcap_trace.specs.Devices.{first_of}

take-parts : (limit n : ℕ) (front ys xs : List ℕ) → n ≤ limit → length front ≡ n → xs ≡ front ++ ys
    → take limit xs ≡ front ++ take (limit - n) ys
take-parts limit n front ys xs within len is =
    let sum : limit ≡ n + (limit - n) = omega arith in
    let first : take n xs ≡ front = ap (take n) is ∙ take_at front ys n len in
    let rest : drop n xs ≡ ys = ap (drop n) is ∙ drop_at front ys n len in
    ap (λ (k : ℕ). take k xs) sum ∙ take-add n (limit - n) xs ∙ ap (λ (t : List ℕ). t ++ take (limit - n) (drop n xs)) first
    ∙ ap (λ (t : List ℕ). front ++ take (limit - n) t) rest

pub consumes : (a b : Option (List ℕ)) (limit n : ℕ) (buf others : List ℕ) → n ≤ length buf → n ≤ limit → Consumes a b (take n buf)
    → Consumes (first_of limit a) (first_of (limit - n) b) (take n (buf ++ others))
consumes None b limit n buf others fits within took = tt
consumes (Some xs) None limit n buf others fits within took = absurd took
consumes (Some xs) (Some ys) limit n buf others fits within took =
    take-parts limit n (take n buf) ys xs within (length-take-le n buf fits) took
    ∙ ap (λ (t : List ℕ). t ++ take (limit - n) ys) (sym (take-append-le n buf others fits))

abbrev nothing_left : List ℕ
nothing_left = []

take-nil : (k : ℕ) → take k nothing_left ≡ nothing_left
take-nil zero = refl
take-nil (suc k) = refl

pub ends : (b : Option (List ℕ)) (limit n : ℕ) (buf into : List ℕ) → length buf ≡ min (length into) limit
    → (n ≡ 0 → 0 < length buf → IsAtEnd b) → n ≡ 0 → 0 < length into → IsAtEnd (first_of (limit - n) b)
ends None limit n buf into len end none room = tt
ends (Some ys) zero n buf into len end none room = let nothing : 0 - n ≡ 0 = omega arith in ap (λ (k : ℕ). take k ys) nothing
ends (Some ys) (suc limit) n buf into len end none room = ap (take (suc limit - n)) (end none (omega arith)) ∙ take-nil (suc limit - n)
