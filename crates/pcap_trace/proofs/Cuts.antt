-- Bytes cut into pieces, and one more piece at the end.
use Rattle.std.proofs.Common.{◌≡◌, ◌≤◌, ℕ, suc, List, [], ◌∷◌, ◌++◌, length, take, drop, sum, refl, sym, ap, ◌∙◌, arith}
use Rattle.std.proofs.lemmas.List.{nil_from_length, length-drop, take-append-le, drop-append-le, take_at, append-nil}
use Rattle.std.proofs.lemmas.List.Sums.{sum_by-cons}
use Rattle.pcap_trace.specs.Frames.{cut_into}

pub cut-push : (ns bytes more : List ℕ) → sum ns ≡ length bytes
    → cut_into (ns ++ length more ∷ []) (bytes ++ more) ≡ cut_into ns bytes ++ more ∷ []
cut-push [] bytes more all =
    let none : bytes ≡ [] = nil_from_length bytes (sym all) in
    let whole : take (length more) more ≡ more = ap (take (length more)) (sym (append-nil more)) ∙ take_at more [] (length more) refl in
    rw none (ap (λ (x : List ℕ). x ∷ []) whole)
cut-push (n ∷ ns) bytes more all =
    let rest_sum = sum_by-cons (λ (x : ℕ). x) n ns in
    let fits : n ≤ length bytes = omega arith in
    let rest_all : sum ns ≡ length (drop n bytes) = omega (arith, length-drop n bytes) in
    rw (take-append-le n bytes more fits, drop-append-le n bytes more fits)
    (ap (λ (x : List (List ℕ)). take n bytes ∷ x) (cut-push ns (drop n bytes) more rest_all))

pub length-cut : (ns bytes : List ℕ) → length (cut_into ns bytes) ≡ length ns
length-cut [] bytes = refl
length-cut (n ∷ ns) bytes = ap suc (length-cut ns (drop n bytes))
