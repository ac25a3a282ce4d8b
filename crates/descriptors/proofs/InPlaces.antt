-- Lemmas about `placed_frames`: a queue's frames after a frame is written to the next place, and after the first frame is dropped.
use Rattle.std.proofs.Common.{◌≡◌, ◌≤◌, ◌<◌, ◌+◌, ◌-◌, ◌*◌, ◌⊎◌, inl, inr, ◌++◌, ◌∷◌, [], ℕ, zero, suc, List, length, take, drop}
use Rattle.std.proofs.Common.{All, refl, sym, ap}
use Rattle.std.proofs.Common.{◌∙◌, arith}
use Rattle.std.proofs.lemmas.Bool.{cond_below, cond_above}
use Rattle.std.proofs.lemmas.Bool.Decides.{leb_tells, nat_tests}
use Rattle.std.specs.Prelude.{slice_get, Some, None, is_some, true, false, Bool, IsTrue, ◌==◌, ◌↔◌}
use Rattle.descriptors.specs.QueuePlaces.{placed_frames}
use Rattle.descriptors.specs.WrappedPlaces.{wrapped}
use Rattle.descriptors.proofs.Written.{bytes-written, bytes-before, bytes-after}

below_or_past : (p c : ℕ) → (p < c) ⊎ (c ≤ p)
below_or_past p c = elim (leb_tells (suc p) c) [ inl t ↦ inl t.1 | inr t ↦ inr (omega (arith, t.1)) ]

pub wrapped-below : (c p : ℕ) → p < c → wrapped c p ≡ p
wrapped-below c p below = sym (cond_below p c p (p - c) below)

pub wrapped-past : (c p : ℕ) → c ≤ p → wrapped c p ≡ p - c
wrapped-past c p past = sym (cond_above p c p (p - c) (p - c) past refl)

pub wrapped-within : (c p : ℕ) → p < c + c → wrapped c p < c
wrapped-within c p once = elim
    (below_or_past p c) [
      | inl below ↦ omega (arith, below, wrapped-below c p below)
      | inr past ↦ omega
          (arith, past, wrapped-past c p past)
    ]

wrapped-apart : (c p q : ℕ) → p < q → q < p + c → q < c + c → (wrapped c p < wrapped c q) ⊎ (wrapped c q < wrapped c p)
wrapped-apart c p q before near once =
    elim (below_or_past q c) [
      | inl below ↦ inl (omega (arith, wrapped-below c q below, wrapped-below c p (omega arith)))
      | inr past ↦ elim (below_or_past p c) [
        | inl low ↦ inr (omega (arith, past, low, wrapped-past c q past, wrapped-below c p low))
        | inr high ↦ inl (omega (arith, high, wrapped-past c q past, wrapped-past c p high))
      ]
    ]

pub length-frames_from : (bytes : List ℕ) (c p : ℕ) (ns : List ℕ) → length (placed_frames bytes c p ns) ≡ length ns
unfolding placed_frames
length-frames_from bytes c p [] = refl
length-frames_from bytes c p (n ∷ ns) = ap (λ (k : ℕ). suc k) (length-frames_from bytes c (p + 1) ns)

pub frames_from-append : (bytes : List ℕ) (c p n : ℕ) (ns : List ℕ)
    → placed_frames bytes c p (ns ++ n ∷ []) ≡ placed_frames bytes c p ns ++ take n (drop (wrapped c (p + length ns) * 1518) bytes) ∷ []
unfolding placed_frames
frames_from-append bytes c p n [] =
    let here : p ≡ p + 0 = omega arith in
    ap (λ (q : ℕ). take n (drop (wrapped c q * 1518) bytes) ∷ []) here
frames_from-append bytes c p n (m ∷ ns) =
    let here : p + 1 + length ns ≡ p + length (m ∷ ns) = omega arith in
    ap (λ (fs : List (List ℕ)). take m (drop (wrapped c p * 1518) bytes) ∷ fs)
    (frames_from-append bytes c (p + 1) n ns
    ∙ ap (λ (q : ℕ). placed_frames bytes c (p + 1) ns ++ take n (drop (wrapped c q * 1518) bytes) ∷ []) here)

pub frames_from-round : (bytes : List ℕ) (c p i : ℕ) (ns : List ℕ) → p ≡ c + i → i + length ns ≤ c
    → placed_frames bytes c p ns ≡ placed_frames bytes c i ns
unfolding placed_frames
frames_from-round bytes c p i [] round fits = refl
frames_from-round bytes c p i (n ∷ ns) round fits =
    let here : wrapped c p ≡ wrapped c i = wrapped-past c p (omega arith) ∙ (let e : p - c ≡ i = omega arith in e)
    ∙ sym (wrapped-below c i (omega arith)) in
    let rest = frames_from-round bytes c (p + 1) (i + 1) ns (omega arith) (omega arith) in
    rw (here, rest) refl

bytes-other_place : (bytes written : List ℕ) (place n m other : ℕ) → length written ≡ n → place * 1518 + n ≤ length bytes → n ≤ 1518
    → m ≤ 1518 → (other < place) ⊎ (place < other)
    → take m (drop (other * 1518) (take (place * 1518) bytes ++ written ++ drop (place * 1518 + n) bytes))
    ≡ take m (drop (other * 1518) bytes)
bytes-other_place bytes written place n m other count lies short fits (inl before) = bytes-before bytes written (place * 1518) n
    (other * 1518) m count lies (omega arith)
bytes-other_place bytes written place n m other count lies short fits (inr after) = bytes-after bytes written (place * 1518) n
    (other * 1518) m count lies (omega arith)

pub frames_from-kept : (bytes written ns : List ℕ) (c p q n : ℕ) → length written ≡ n → wrapped c q * 1518 + n ≤ length bytes → n ≤ 1518
    → All (λ (m : ℕ). m ≤ 1518) ns → p + length ns ≡ q → q < p + c → q < c + c
    → placed_frames (take (wrapped c q * 1518) bytes ++ written ++ drop (wrapped c q * 1518 + n) bytes) c p ns ≡ placed_frames bytes c p ns
unfolding placed_frames
frames_from-kept bytes written [] c p q n count lies short fits end near once = refl
frames_from-kept bytes written (m ∷ ns) c p q n count lies short fits end near once =
    let here = bytes-other_place bytes written (wrapped c q) n m (wrapped c p) count lies short (fits 0 0 (omega arith))
    (wrapped-apart c p q (omega arith) near once) in
    let rest = frames_from-kept bytes written ns c (p + 1) q n count lies short (λ k d below. fits (suc k) d (omega arith)) (omega arith)
    (omega arith) once in
    rw (here, rest) refl

pub slice_get-frames_from : (bytes : List ℕ) (c p n : ℕ) (ns : List ℕ) → p < c → slice_get ns 0 ≡ Some n
    → slice_get (placed_frames bytes c p ns) 0 ≡ Some (take n (drop (p * 1518) bytes))
unfolding placed_frames
slice_get-frames_from bytes c p n [] below is = absurd (cc)
slice_get-frames_from bytes c p n (m ∷ ns) below is =
    let same : m ≡ n = cc in
    rw (wrapped-below c p below, same) refl

pub slice_get-frames_from-at : (bytes : List ℕ) (c p i n : ℕ) (ns : List ℕ) → slice_get ns i ≡ Some n
    → slice_get (placed_frames bytes c p ns) i ≡ Some (take n (drop (wrapped c (p + i) * 1518) bytes))
unfolding placed_frames
slice_get-frames_from-at bytes c p i n [] is = absurd (cc)
slice_get-frames_from-at bytes c p zero n (m ∷ ns) is =
    let same : m ≡ n = cc in
    let here : p ≡ p + 0 = omega arith in
    rw (same, ← here) refl
slice_get-frames_from-at bytes c p (suc i) n (m ∷ ns) is =
    let here : p + 1 + i ≡ p + suc i = omega arith in
    slice_get-frames_from-at bytes c (p + 1) i n ns is
    ∙ ap (λ (q : ℕ). Some (take n (drop (wrapped c q * 1518) bytes))) here

pub frames_from-drop : (bytes : List ℕ) (c p : ℕ) (ns : List ℕ) → p < c → length ns ≤ c
    → placed_frames bytes c (wrapped c (p + 1)) (drop 1 ns) ≡ drop 1 (placed_frames bytes c p ns)
unfolding placed_frames
frames_from-drop bytes c p [] below fits = refl
frames_from-drop bytes c p (n ∷ ns) below fits =
    elim (below_or_past (p + 1) c) [
      | inl low ↦ ap (λ (q : ℕ). placed_frames bytes c q ns) (wrapped-below c (p + 1) low)
      | inr high ↦
          let first : wrapped c (p + 1) ≡ 0 = omega (arith, high, wrapped-past c (p + 1) high) in
          ap (λ (q : ℕ). placed_frames bytes c q ns) first ∙ sym (frames_from-round bytes c (p + 1) 0 ns (omega arith) (omega arith))
    ]

pub empty_from_length : (frames : List (List ℕ)) (n : ℕ) (b : Bool) → length frames ≡ n → b ≡ (n == 0) → IsTrue b ↔ (frames ≡ [])
empty_from_length [] n b count is = ((λ _. refl), (λ _. let none : n ≡ 0 = omega arith in rw (is, none) refl))
empty_from_length (f ∷ fs) n b count is = (
  (λ yes. absurd (let t : IsTrue (n == 0) = rw (← is) yes in let none : n ≡ 0 = grind (arith, nat_tests) in omega (arith, none))),
  (λ e. absurd (cc)),
)

pub full_from_length : (m n capacity : ℕ) (b : Bool) → m ≡ n → b ≡ (n == capacity) → IsTrue b ↔ (m ≡ capacity)
full_from_length m n capacity b count is = (
  (λ yes. let t : IsTrue (n == capacity) = rw (← is) yes in let same : n ≡ capacity = grind (arith, nat_tests) in omega arith),
  (λ e. let same : n ≡ capacity = omega arith in rw (is) (grind (arith, nat_tests))),
)

pub frames_from-none : (bytes : List ℕ) (c p : ℕ) (ns : List ℕ) → slice_get ns 0 ≡ None → placed_frames bytes c p ns ≡ []
unfolding placed_frames
frames_from-none bytes c p [] none = refl
frames_from-none bytes c p (n ∷ ns) none = absurd (cc)

pub frames_from-some : (bytes : List ℕ) (c p n : ℕ) (ns : List ℕ) → slice_get ns 0 ≡ Some n → placed_frames bytes c p ns ≡ [] → ⊥
unfolding placed_frames
frames_from-some bytes c p n [] some none = absurd (cc)
frames_from-some bytes c p n (m ∷ ns) some none = absurd (cc)

-- After bytes are written to the place after the frames, these bytes are the last frame.
pub frames_from-pushed : (bytes written ns : List ℕ) (c p n : ℕ) → length bytes ≡ c * 1518 → p < c → length ns < c
    → All (λ (m : ℕ). m ≤ 1518) ns → length written ≡ n → n ≤ 1518
    → placed_frames
    (take (wrapped c (p + length ns) * 1518) bytes ++ written ++ drop (wrapped c (p + length ns) * 1518 + n) bytes) c p (ns ++ n ∷ [])
    ≡ placed_frames bytes c p ns ++ written ∷ []
frames_from-pushed bytes written ns c p n size first room fits count short =
    let q = p + length ns in
    let start = wrapped c q * 1518 in
    let within = wrapped-within c q (omega arith) in
    let lies : start + n ≤ length bytes = omega (arith, within, size, short) in
    let stored = bytes-written bytes written start n count lies in
    let kept = frames_from-kept bytes written ns c p q n count lies short fits refl (omega arith) (omega arith) in
    frames_from-append (take start bytes ++ written ++ drop (start + n) bytes) c p n ns ∙ rw (kept, stored) refl

pub some_below : (ns : List ℕ) → is_some (slice_get ns 0) ≡ true → 0 < length ns
some_below [] some = absurd (cc)
some_below (n ∷ ns) some = omega arith

pub drop-none : (bytes : List ℕ) (c p : ℕ) (ns : List ℕ) → is_some (slice_get ns 0) ≡ false
    → placed_frames bytes c p (drop 1 ns) ≡ drop 1 (placed_frames bytes c p ns)
unfolding placed_frames
drop-none bytes c p [] none = refl
drop-none bytes c p (n ∷ ns) none = absurd (cc)
