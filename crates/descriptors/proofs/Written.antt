-- Lemmas about a list in which other bytes replace n bytes from `start` on: its length, the new bytes, and the bytes before and after them.
use Rattle.std.proofs.Common.{◌≡◌, ◌≤◌, ◌+◌, ◌-◌, ◌++◌, ℕ, List, length, take, drop, sym, ap, ◌∙◌, arith}
use Rattle.std.proofs.lemmas.List.{length-append, length-take-le, length-drop, take-take, take_at, drop_at, take-append-le}
use Rattle.std.proofs.lemmas.List.{drop-append-le, drop-drop, drop-take}
use Rattle.std.proofs.Math.Seq.{drop-append-add}

length-front : (bytes written : List ℕ) (start n : ℕ) → length written ≡ n → start + n ≤ length bytes
    → length (take start bytes ++ written) ≡ start + n
length-front bytes written start n count fits = omega
    (arith, count, fits, length-append (take start bytes) written, length-take-le start bytes (omega (arith, fits)))

pub length-written : (bytes written : List ℕ) (start n : ℕ) → length written ≡ n → start + n ≤ length bytes
    → length (take start bytes ++ written ++ drop (start + n) bytes) ≡ length bytes
length-written bytes written start n count fits = omega (
  arith,
  fits,
  length-front bytes written start n count fits,
  length-append (take start bytes ++ written) (drop (start + n) bytes),
  length-drop (start + n) bytes,
)

pub bytes-written : (bytes written : List ℕ) (start n : ℕ) → length written ≡ n → start + n ≤ length bytes
    → take n (drop start (take start bytes ++ written ++ drop (start + n) bytes)) ≡ written
bytes-written bytes written start n count fits =
    let front = take start bytes ++ written in
    sym (drop-take start n (front ++ drop (start + n) bytes))
    ∙ ap (drop start) (take_at front (drop (start + n) bytes) (start + n) (length-front bytes written start n count fits))
    ∙ drop_at (take start bytes) written start (length-take-le start bytes (omega (arith, fits)))

pub bytes-before : (bytes written : List ℕ) (start n i m : ℕ) → length written ≡ n → start + n ≤ length bytes → i + m ≤ start
    → take m (drop i (take start bytes ++ written ++ drop (start + n) bytes)) ≡ take m (drop i bytes)
bytes-before bytes written start n i m count fits before =
    let front = take start bytes ++ written in
    let below = length-front bytes written start n count fits in
    let first = length-take-le start bytes (omega (arith, fits)) in
    sym (drop-take i m (front ++ drop (start + n) bytes))
    ∙ ap (drop i) (take-append-le (i + m) front (drop (start + n) bytes) (omega (arith, below, before))
    ∙ take-append-le (i + m) (take start bytes) written (omega (arith, first, before)) ∙ take-take (i + m) start bytes before)
    ∙ drop-take i m bytes

pub bytes-after : (bytes written : List ℕ) (start n i m : ℕ) → length written ≡ n → start + n ≤ length bytes → start + n ≤ i
    → take m (drop i (take start bytes ++ written ++ drop (start + n) bytes)) ≡ take m (drop i bytes)
bytes-after bytes written start n i m count fits after =
    let front = take start bytes ++ written in
    let below = length-front bytes written start n count fits in
    let k = i - (start + n) in
    let here : length front + k ≡ i = omega (arith, below, after) in
    let there : start + n + k ≡ i = omega (arith, after) in
    ap (take m) (ap (λ (j : ℕ). drop j (front ++ drop (start + n) bytes)) (sym here)
    ∙ drop-append-add front (drop (start + n) bytes) k ∙ drop-drop k (start + n) bytes ∙ ap (λ (j : ℕ). drop j bytes) there)

pub bytes-appended : (bytes written : List ℕ) (first count n : ℕ) → length written ≡ n → first + count + n ≤ length bytes
    → take (count + n) (drop first (take (first + count) bytes ++ written ++ drop (first + count + n) bytes))
    ≡ take count (drop first bytes) ++ written
bytes-appended bytes written first count n long fits =
    let start = first + count in
    let front = take start bytes ++ written in
    let all = front ++ drop (start + n) bytes in
    let whole : first + (count + n) ≡ start + n = omega arith in
    let kept : length (take start bytes) ≡ start = length-take-le start bytes (omega (arith, fits)) in
    sym (drop-take first (count + n) all)
    ∙ ap (λ (k : ℕ). drop first (take k all)) whole
    ∙ ap (drop first) (take_at front (drop (start + n) bytes) (start + n) (length-front bytes written start n long fits))
    ∙ drop-append-le first (take start bytes) written (omega (arith, kept))
    ∙ ap (λ (list : List ℕ). list ++ written) (drop-take first count bytes)
