-- Lemmas about `cut`: bytes cut into frames of given lengths, after a length is added or removed, and the frame at an index.
use Rattle.std.proofs.Common.{◌≡◌, ◌≤◌, ◌+◌, ◌++◌, ◌∷◌, [], ℕ, zero, suc, List, length, take, drop, refl, sym, ap, ◌∙◌, arith}
use Rattle.std.proofs.lemmas.List.{drop-drop, drop-take, drop_at, length-drop, length-take-le, take-take, take_at, take_more}
use Rattle.std.specs.Prelude.{slice_get, sum_by, None, Some, IsTrue, true, ◌==◌}
use Rattle.std.proofs.lemmas.Bool.Decides.{nat_tests}
use Rattle.descriptors.specs.Packed.{cut, total}
use Rattle.std.proofs.lemmas.List.Sums.{sum_by-append, sum_by-cons, sum_by-take-le}
use Rattle.std.proofs.lemmas.Option.{get_or_from_slice_get, slice_get_within}

pub length-cut : (ns bytes : List ℕ) → length (cut ns bytes) ≡ length ns
unfolding cut
length-cut [] bytes = refl
length-cut (n ∷ ns) bytes = ap (λ (k : ℕ). suc k) (length-cut ns (drop n bytes))

total-cons : (m : ℕ) (ns : List ℕ) → total (m ∷ ns) ≡ m + total ns
total-cons m ns = sum_by-cons (λ (n : ℕ). n) m ns

drop-total : (ns : List ℕ) (m : ℕ) (bytes : List ℕ) → drop (total ns) (drop m bytes) ≡ drop (total (m ∷ ns)) bytes
drop-total ns m bytes = drop-drop (total ns) m bytes ∙ ap (λ (k : ℕ). drop k bytes) (sym (total-cons m ns))

pub cut-append : (ns bytes : List ℕ) (n : ℕ) → cut (ns ++ n ∷ []) bytes ≡ cut ns bytes ++ take n (drop (total ns) bytes) ∷ []
unfolding cut
cut-append [] bytes n = refl
cut-append (m ∷ ns) bytes n =
    ap (λ (frames : List (List ℕ)). take m bytes ∷ frames)
    (cut-append ns (drop m bytes) n
    ∙ ap (λ (rest : List ℕ). cut ns (drop m bytes) ++ take n rest ∷ []) (drop-total ns m bytes))

pub cut-agree : (ns a b : List ℕ) → take (total ns) a ≡ take (total ns) b → cut ns a ≡ cut ns b
unfolding cut
cut-agree [] a b same = refl
cut-agree (n ∷ ns) a b same =
    let joined : take (n + total ns) a ≡ take (n + total ns) b = rw (total-cons n ns) at same in
    let first : take n a ≡ take n b =
    sym (take-take n (n + total ns) a (omega arith)) ∙ ap (take n) joined ∙ take-take n (n + total ns) b (omega arith) in
    let rest : take (total ns) (drop n a) ≡ take (total ns) (drop n b) =
    sym (drop-take n (total ns) a) ∙ ap (drop n) joined ∙ drop-take n (total ns) b in
    rw (first, cut-agree ns (drop n a) (drop n b) rest) refl

pub sum-cut : (ns bytes : List ℕ) → total ns ≤ length bytes → sum_by (λ (frame : List ℕ). length frame) (cut ns bytes) ≡ total ns
unfolding cut
sum-cut [] bytes fits = refl
sum-cut (n ∷ ns) bytes fits =
    let all = total-cons n ns in
    let first : length (take n bytes) ≡ n = length-take-le n bytes (omega (arith, fits, all)) in
    let later = sum-cut ns (drop n bytes) (omega (arith, fits, length-drop n bytes, all)) in
    omega (arith, first, later, all, sum_by-cons (λ (frame : List ℕ). length frame) (take n bytes) (cut ns (drop n bytes)))

pub cut-drop : (ns bytes : List ℕ) (n : ℕ) → slice_get ns 0 ≡ Some n → cut (drop 1 ns) (drop n bytes) ≡ drop 1 (cut ns bytes)
unfolding cut
cut-drop [] bytes n first = absurd (cc)
cut-drop (m ∷ ns) bytes n first =
    let same : m ≡ n = cc in
    ap (λ (k : ℕ). cut ns (drop k bytes)) (sym same)

pub front-cut : (ns bytes : List ℕ) (n : ℕ) → slice_get ns 0 ≡ Some n → slice_get (cut ns bytes) 0 ≡ Some (take n bytes)
unfolding cut
front-cut [] bytes n first = absurd (cc)
front-cut (m ∷ ns) bytes n first =
    let same : m ≡ n = cc in
    rw same refl

pub none-cut : (ns bytes : List ℕ) → length ns ≡ 0 → cut ns bytes ≡ []
unfolding cut
none-cut [] bytes none = refl
none-cut (n ∷ ns) bytes none = absurd (omega (arith, none))

pub some-cut : (ns bytes : List ℕ) (n : ℕ) → slice_get ns 0 ≡ Some n → cut ns bytes ≡ [] → ⊥
unfolding cut
some-cut [] bytes n some none = absurd (cc)
some-cut (m ∷ ns) bytes n some none = absurd (cc)

pub get-cut : (ns bytes : List ℕ) (i n : ℕ) → slice_get ns i ≡ Some n
    → slice_get (cut ns bytes) i ≡ Some (take n (drop (total (take i ns)) bytes))
unfolding cut
get-cut [] bytes i n is = absurd (cc)
get-cut (m ∷ ns) bytes zero n is =
    let same : m ≡ n = cc in
    rw same refl
get-cut (m ∷ ns) bytes (suc i) n is =
    get-cut ns (drop m bytes) i n is
    ∙ ap (λ (rest : List ℕ). Some (take n rest)) (drop-total (take i ns) m bytes)

pub first-in-sum : (ns : List ℕ) (n : ℕ) → slice_get ns 0 ≡ Some n → n + total (drop 1 ns) ≡ total ns
first-in-sum [] n is = absurd (cc)
first-in-sum (m ∷ ns) n is =
    let same : m ≡ n = cc in
    omega (arith, same, total-cons m ns)

pub none-in-sum : (ns : List ℕ) → length ns ≡ 0 → total ns ≡ 0
none-in-sum [] none = refl
none-in-sum (n ∷ ns) none = absurd (omega (arith, none))

pub cut-pushed : (ns before after frame : List ℕ) (n : ℕ) → length frame ≡ n → total ns ≤ length before
    → take (total ns + n) after ≡ take (total ns) before ++ frame → cut (ns ++ n ∷ []) after ≡ cut ns before ++ frame ∷ []
cut-pushed ns before after frame n count fits appended =
    let front = take (total ns) before in
    let long : length front ≡ total ns = length-take-le (total ns) before fits in
    let first : take (total ns) after ≡ front =
    sym (take-take (total ns) (total ns + n) after (omega arith)) ∙ ap (take (total ns)) appended
    ∙ take_at front frame (total ns) long in
    let last : take n (drop (total ns) after) ≡ frame =
    sym (drop-take (total ns) n after) ∙ ap (drop (total ns)) appended ∙ drop_at front frame (total ns) long in
    cut-append ns after n ∙ rw (cut-agree ns after before first, last) refl

pub total-append : (ns : List ℕ) (n : ℕ) → total (ns ++ n ∷ []) ≡ total ns + n
total-append ns n =
    omega (arith, sum_by-append (λ (m : ℕ). m) ns (n ∷ []), sum_by-cons (λ (m : ℕ). m) n [])

pub none-first : (ns : List ℕ) → slice_get ns 0 ≡ None → length ns ≡ 0
none-first [] none = refl
none-first (n ∷ ns) none = absurd (cc)

pub none-dropped : (ns bytes : List ℕ) → slice_get ns 0 ≡ None → cut (drop 1 ns) bytes ≡ drop 1 (cut ns bytes)
unfolding cut
none-dropped [] bytes none = refl
none-dropped (n ∷ ns) bytes none = absurd (cc)

pub is_none : (ns : List ℕ) → true ≡ (length ns == 0) → length ns ≡ 0
is_none ns same =
    let t : IsTrue (length ns == 0) = sym same in
    grind (arith, nat_tests)

pub total-more : (ns : List ℕ) (i n : ℕ) → slice_get ns i ≡ Some n → total (take (i + 1) ns) ≡ total (take i ns) + n
total-more ns i n is =
    ap total (take_more ns i n (slice_get_within ns i n is) ∙ ap (λ (k : ℕ). take i ns ++ k ∷ []) (get_or_from_slice_get ns i n n is))
    ∙ total-append (take i ns) n

pub total-part : (ns : List ℕ) (i : ℕ) → total (take i ns) ≤ total ns
total-part ns i = sum_by-take-le (λ (n : ℕ). n) ns i

pub frame-at : (ns bytes : List ℕ) (first start i n : ℕ) → slice_get ns i ≡ Some n → start ≡ first + total (take i ns)
    → slice_get (cut ns (drop first bytes)) i ≡ Some (take n (drop start bytes))
frame-at ns bytes first start i n is begins =
    let sum : first + total (take i ns) ≡ start = omega (arith, begins) in
    get-cut ns (drop first bytes) i n is
    ∙ ap (λ (rest : List ℕ). Some (take n rest)) (drop-drop (total (take i ns)) first bytes ∙ ap (λ (k : ℕ). drop k bytes) sum)
