-- The proof of `close_up`: entries are dropped from a log in place. Also what each end reads in the log after
-- `close_up`.
use Rattle.std.proofs.Common.{◌≡◌, ◌≢◌, ◌<◌, ◌≤◌, ◌+◌, ◌-◌, not, Bool, true, false, ℕ, suc, List, [], ◌∷◌, ◌++◌, drop, take, length, map}
use Rattle.std.proofs.Common.{slice_index_or, slice_set, if◌then◌else◌, inl, inr, refl, sym, ap, ◌∙◌, arith}
use Rattle.std.proofs.Common.{append_assoc, append-nil, length-append}
use Rattle.std.specs.Prelude.{filter}
use Rattle.std.specs.List.{SwappedAt}
use Rattle.std.proofs.lemmas.List.{take_all, take_more, take-set-le, drop-append-le, drop_more, drop-set-lt, length-drop, length-set}
use Rattle.std.proofs.lemmas.List.{take-append-le, length-take-le, length-take, get_or_default, drop-drop, map-append, take-append-drop}
use Rattle.std.proofs.lemmas.Bool.Decides.{eqb_tells}
use Rattle.std.proofs.lemmas.List.Elements.{filter-append}
use Rattle.std.proofs.lemmas.List.Filters.{length-filter_both}
use Rattle.std.proofs.Math.ListN.{drop_of_length-le}
use Rattle.std.proofs.Math.Seq.{drop-append-add}
use Rattle.stations.specs.WireLogs.{LogEntry, closed_up, entry_at, frames_of_others, is_of_other}

-- The sender of an entry

module _ (r : ℕ) (ys : List LogEntry) (i : ℕ) (e : LogEntry) (below : i < length ys) (is : e ≡ slice_index_or ys i e) where
  at : entry_at i ys ≡ e
  at = sym (is ∙ get_or_default ys i e (0, []) below)

  pub tells-other : e.0 ≢ r → is_of_other r (entry_at i ys) ≡ true
  tells-other other = elim (eqb_tells e.0 r) [
    | inl same ↦ absurd (other same.1)
    | inr differs ↦ ap (is_of_other r) at ∙ ap not differs.0
  ]

  pub tells-own : e.0 ≡ r → is_of_other r (entry_at i ys) ≡ false
  tells-own own = elim (eqb_tells e.0 r) [
    | inl same ↦ ap (is_of_other r) at ∙ ap not same.0
    | inr differs ↦ absurd (differs.1 own)
  ]

-- One entry more is examined

before : (r f s : ℕ) (p : List LogEntry) (x : LogEntry) → f ≤ length p → length p < s
    → closed_up r f s (p ++ x ∷ []) ≡ closed_up r f s p ++ filter (is_of_other r) (x ∷ [])
before r f s p x start below =
    let o = is_of_other r in
    let one : length (p ++ x ∷ []) ≡ length p + 1 = length-append p (x ∷ []) in
    let whole : take (s - f) (drop f (p ++ x ∷ [])) ≡ drop f p ++ x ∷ [] =
    take_all (s - f) (drop f (p ++ x ∷ [])) (omega (arith, one, length-drop f (p ++ x ∷ []), below))
    ∙ drop-append-le f p (x ∷ []) start in
    let part : take (s - f) (drop f p) ≡ drop f p = take_all (s - f) (drop f p) (omega (arith, length-drop f p, below)) in
    let none : drop s (p ++ x ∷ []) ≡ [] = drop_of_length-le (p ++ x ∷ []) (omega (arith, one, below)) in
    let none' : drop s p ≡ [] = drop_of_length-le p (omega (arith, below)) in
    rw (whole, none, part, none')
    (append-nil (filter o (drop f p ++ x ∷ []))
    ∙ filter-append o (drop f p) (x ∷ [])
    ∙ ap (λ (l : List LogEntry). l ++ filter o (x ∷ [])) (sym (append-nil (filter o (drop f p)))))

behind : (r f s : ℕ) (p : List LogEntry) (x : LogEntry) → f ≤ s → s ≤ length p → closed_up r f s (p ++ x ∷ []) ≡ closed_up r f s p ++ x ∷ []
behind r f s p x order past =
    let middle : take (s - f) (drop f (p ++ x ∷ [])) ≡ take (s - f) (drop f p) =
    ap (take (s - f)) (drop-append-le f p (x ∷ []) (omega (arith, order, past)))
    ∙ take-append-le (s - f) (drop f p) (x ∷ []) (omega (arith, length-drop f p, past)) in
    let tail : drop s (p ++ x ∷ []) ≡ drop s p ++ x ∷ [] = drop-append-le s p (x ∷ []) past in
    rw (middle, tail) (sym (append_assoc (filter (is_of_other r) (take (s - f) (drop f p))) (drop s p) (x ∷ [])))

-- In place

-- The first k places of `ys` contain those of the first i entries of `xs` that are kept. The places from i on haven't
-- changed.
pub record ClosesUp (r f s : ℕ) (xs ys : List LogEntry) (k i : ℕ) : Type 0 where
  pub front : take k ys ≡ closed_up r f s (take i xs)
  pub rest : drop i ys ≡ drop i xs
  pub behind : k ≤ i
  pub start : f ≤ i
  pub long : length ys ≡ length xs

module _ (r f s : ℕ) (xs ys : List LogEntry) (k i : ℕ) (h : ClosesUp r f s xs ys k i) (below : i < length ys) where
  abbrev pub x : LogEntry
  x = entry_at i ys

  is : x ≡ slice_index_or ys i x
  is = get_or_default ys i (0, []) x below

  both : x ∷ drop (i + 1) ys ≡ slice_index_or xs i x ∷ drop (i + 1) xs
  both = ap (λ (y : LogEntry). y ∷ drop (i + 1) ys) is ∙ sym (drop_more ys i x below) ∙ h.rest
      ∙ drop_more xs i x (omega (arith, h.long, below))

  same : slice_index_or xs i x ≡ x
  same = sym (ap (λ (l : List LogEntry). slice_index_or l 0 x) both)

  more : take (i + 1) xs ≡ take i xs ++ x ∷ []
  more = take_more xs i x (omega (arith, h.long, below)) ∙ ap (λ (y : LogEntry). take i xs ++ y ∷ []) same

  long-take : length (take i xs) ≡ i
  long-take = length-take-le i xs (omega (arith, h.long, below))

  -- Entry i is kept: it is swapped to place k.
  pub keeps : (zs : List LogEntry) → SwappedAt ys zs k i
      → closed_up r f s (take i xs ++ x ∷ []) ≡ closed_up r f s (take i xs) ++ x ∷ [] → ClosesUp r f s xs zs (k + 1) (i + 1)
  keeps zs swapped longer =
      let sets : zs ≡ slice_set (slice_set ys k (slice_index_or ys i x)) i (slice_index_or ys k x) = swapped.3 x in
      let first = slice_set ys k (slice_index_or ys i x) in
      let long : length zs ≡ length ys =
      ap (λ (l : List LogEntry). length l) sets ∙ length-set first i (slice_index_or ys k x) ∙ length-set ys k (slice_index_or ys i x) in
      let front : take k zs ≡ take k ys =
      ap (take k) sets ∙ take-set-le k first i (slice_index_or ys k x) h.behind
      ∙ take-set-le k ys k (slice_index_or ys i x) (omega arith) in
      let back : drop (i + 1) zs ≡ drop (i + 1) ys =
      ap (drop (i + 1)) sets ∙ drop-set-lt (i + 1) first i (slice_index_or ys k x) (omega arith)
      ∙ drop-set-lt (i + 1) ys k (slice_index_or ys i x) (omega (arith, h.behind)) in
      record {
        front = take_more zs k x (omega (arith, long, below, h.behind))
            ∙ ap (λ (y : LogEntry). take k zs ++ y ∷ []) (swapped.0 x ∙ sym is)
            ∙ ap (λ (l : List LogEntry). l ++ x ∷ []) (front ∙ h.front)
            ∙ sym longer
            ∙ ap (closed_up r f s) (sym more);
        rest = back ∙ ap (drop 1) both;
        behind = omega (arith, h.behind);
        start = omega (arith, h.start);
        long = long ∙ h.long;
      }

  pub keeps-of_other : (zs : List LogEntry) → SwappedAt ys zs k i → i < s → is_of_other r x ≡ true → ClosesUp r f s xs zs (k + 1) (i + 1)
  keeps-of_other zs swapped le other = keeps zs swapped
      (before r f s (take i xs) x (omega (arith, long-take, h.start)) (omega (arith, long-take, le))
      ∙ ap (λ (b : Bool). closed_up r f s (take i xs) ++ (if b then x ∷ [] else [])) other)

  pub keeps-behind : (zs : List LogEntry) → SwappedAt ys zs k i → f ≤ s → s ≤ i → ClosesUp r f s xs zs (k + 1) (i + 1)
  keeps-behind zs swapped order le = keeps zs swapped (behind r f s (take i xs) x order (omega (arith, long-take, le)))

  -- Entry i is dropped, because it is before place s and `r` sent it.
  pub drops : i < s → is_of_other r x ≡ false → ClosesUp r f s xs ys k (i + 1)
  drops le own = record {
    front = h.front
        ∙ sym (append-nil (closed_up r f s (take i xs)))
        ∙ ap (λ (b : Bool). closed_up r f s (take i xs) ++ (if b then x ∷ [] else [])) (sym own)
        ∙ sym (before r f s (take i xs) x (omega (arith, long-take, h.start)) (omega (arith, long-take, le)))
        ∙ ap (closed_up r f s) (sym more);
    rest = ap (drop 1) both;
    behind = omega (arith, h.behind);
    start = omega (arith, h.start);
    long = h.long;
  }

pub closes-none : (r f s : ℕ) (xs : List LogEntry) → f ≤ s → f ≤ length xs → ClosesUp r f s xs xs 0 f
closes-none r f s xs order there =
    let long : length (take f xs) ≡ f = length-take-le f xs there in
    let middle : drop f (take f xs) ≡ [] = drop_of_length-le (take f xs) (omega (arith, long)) in
    let tail : drop s (take f xs) ≡ [] = drop_of_length-le (take f xs) (omega (arith, long, order)) in
    record {
      front = sym (ap (λ (l : List LogEntry). filter (is_of_other r) (take (s - f) l) ++ drop s (take f xs)) middle
          ∙ ap (λ (l : List LogEntry). filter (is_of_other r) (take (s - f) []) ++ l) tail
          ∙ ap (λ (l : List LogEntry). filter (is_of_other r) l ++ []) (take_all (s - f) [] (omega arith)));
      rest = refl;
      behind = omega arith;
      start = omega arith;
      long = refl;
    }

pub closes-all : (r f s : ℕ) (xs ys : List LogEntry) (k i : ℕ) → ClosesUp r f s xs ys k i → length xs ≤ i → take k ys ≡ closed_up r f s xs
closes-all r f s xs ys k i h all = h.front ∙ ap (closed_up r f s) (take_all i xs all)

-- What the ends read

pub frames-append : (k : ℕ) (xs ys : List LogEntry) → frames_of_others k (xs ++ ys) ≡ frames_of_others k xs ++ frames_of_others k ys
frames-append k xs ys =
    let frame : LogEntry → List ℕ = λ entry. entry.1 in
    ap (map frame) (filter-append (is_of_other k) xs ys)
    ∙ map-append frame (filter (is_of_other k) xs) (filter (is_of_other k) ys)

pub frames-appended : (k cursor : ℕ) (xs : List LogEntry) (x : LogEntry) → cursor ≤ length xs
    → frames_of_others k (drop cursor (xs ++ x ∷ [])) ≡ frames_of_others k (drop cursor xs) ++ frames_of_others k (x ∷ [])
frames-appended k cursor xs x below =
    ap (frames_of_others k) (drop-append-le cursor xs (x ∷ []) below) ∙ frames-append k (drop cursor xs) (x ∷ [])

filter-twice : (p : LogEntry → Bool) (xs : List LogEntry) → filter p (filter p xs) ≡ filter p xs
filter-twice p [] = refl
filter-twice p (x ∷ xs) = by_case (filter-twice p xs) (p x) refl
  where
    by_case : filter p (filter p xs) ≡ filter p xs → (b : Bool) → p x ≡ b
        → filter p (if b then x ∷ filter p xs else filter p xs) ≡ (if b then x ∷ filter p xs else filter p xs)
    by_case later true passes = ap (λ (c : Bool). if c then x ∷ filter p (filter p xs) else filter p (filter p xs)) passes
        ∙ ap (λ (l : List LogEntry). x ∷ l) later
    by_case later false _ = later

-- At most one of two hosts sent an entry, so at least one of them reads it.
pub two-read : (j k : ℕ) → j ≢ k → (xs : List LogEntry)
    → length xs ≤ length (filter (is_of_other j) xs) + length (filter (is_of_other k) xs)
two-read j k differ [] = omega arith
two-read j k differ (x ∷ xs) = by_case (two-read j k differ xs) (is_of_other j x) (is_of_other k x) refl refl
  where
    by_case : length xs ≤ length (filter (is_of_other j) xs) + length (filter (is_of_other k) xs)
        → (b c : Bool) → is_of_other j x ≡ b → is_of_other k x ≡ c
        → suc (length xs)
        ≤ length (if b then x ∷ filter (is_of_other j) xs else filter (is_of_other j) xs)
        + length (if c then x ∷ filter (is_of_other k) xs else filter (is_of_other k) xs)
    by_case later true true _ _ = omega (arith, later)
    by_case later true false _ _ = omega (arith, later)
    by_case later false true _ _ = omega (arith, later)
    by_case later false false one two = elim (eqb_tells x.0 j) [
      | inl of_j ↦ elim (eqb_tells x.0 k) [
        | inl of_k ↦ absurd (differ (sym of_j.1 ∙ of_k.1))
        | inr differs ↦ absurd (let bad : true ≡ false = sym (ap not differs.0) ∙ two in cc)
      ]
      | inr differs ↦ absurd (let bad : true ≡ false = sym (ap not differs.0) ∙ one in cc)
    ]

module _ (r f s : ℕ) (xs : List LogEntry) (order : f ≤ s) (there : s ≤ length xs) where
  abbrev pub middle : List LogEntry
  middle = take (s - f) (drop f xs)

  abbrev pub kept : List LogEntry
  kept = filter (is_of_other r) middle

  parts : drop f xs ≡ middle ++ drop s xs
  parts =
      let on : f + (s - f) ≡ s = omega (arith, order) in
      sym (take-append-drop (s - f) (drop f xs))
      ∙ ap (λ (l : List LogEntry). middle ++ l) (drop-drop (s - f) f xs ∙ ap (λ (n : ℕ). drop n xs) on)

  pub few : length kept ≤ s - f
  few =
      let both = length-filter_both (is_of_other r) (λ (e : LogEntry). not (is_of_other r e)) (λ (e : LogEntry). refl) middle in
      omega (arith, both, length-take (s - f) (drop f xs))

  pub long : length (closed_up r f s xs) ≡ length kept + (length xs - s)
  long = length-append kept (drop s xs) ∙ ap (λ (n : ℕ). length kept + n) (length-drop s xs)

  pub slowest-reads : frames_of_others r (drop (f - (length xs - length (closed_up r f s xs))) (closed_up r f s xs))
      ≡ frames_of_others r (drop f xs)
  slowest-reads =
      let front : f - (length xs - length (closed_up r f s xs)) ≡ 0 = omega (arith, long, few, order, there) in
      let frame : LogEntry → List ℕ = λ entry. entry.1 in
      ap (λ (n : ℕ). frames_of_others r (drop n (closed_up r f s xs))) front
      ∙ frames-append r kept (drop s xs)
      ∙ ap (λ (l : List LogEntry). map frame l ++ frames_of_others r (drop s xs)) (filter-twice (is_of_other r) middle)
      ∙ sym (frames-append r middle (drop s xs))
      ∙ ap (frames_of_others r) (sym parts)

  pub others-read : (cursor : ℕ) → s ≤ cursor
      → drop (cursor - (length xs - length (closed_up r f s xs))) (closed_up r f s xs) ≡ drop cursor xs
  others-read cursor past =
      let at : cursor - (length xs - length (closed_up r f s xs)) ≡ length kept + (cursor - s) = omega (arith, long, few, there, past) in
      let on : s + (cursor - s) ≡ cursor = omega (arith, past) in
      ap (λ (n : ℕ). drop n (closed_up r f s xs)) at
      ∙ drop-append-add kept (drop s xs) (cursor - s)
      ∙ drop-drop (cursor - s) s xs
      ∙ ap (λ (n : ℕ). drop n xs) on

  -- The number of kept entries: those before place s wait at the end r, and all entries from place s on are kept.
  pub kept-waits : length (closed_up r f s xs) + length (filter (is_of_other r) (drop s xs))
      ≡ length (filter (is_of_other r) (drop f xs)) + length (drop s xs)
  kept-waits =
      let whole = ap (λ (l : List LogEntry). length (filter (is_of_other r) l)) parts
      ∙ ap (λ (l : List LogEntry). length l) (filter-append (is_of_other r) middle (drop s xs))
      ∙ length-append kept (filter (is_of_other r) (drop s xs)) in
      omega (arith, whole, length-append kept (drop s xs))
