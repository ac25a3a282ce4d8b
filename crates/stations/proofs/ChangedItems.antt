-- A loop that changes the items of a list one after the other.
use Rattle.std.proofs.Common.{◌≡◌, ◌≢◌, ◌<◌, ◌≤◌, ◌+◌, Bool, true, false, suc, ℕ, List, Option, Some, length}
use Rattle.std.proofs.Common.{if◌then◌else◌, nat_lt, option_map, slice_get, slice_set, inl, inr, sym, ap, ◌∙◌, arith}
use Rattle.std.proofs.lemmas.Bool.Decides.{eqb_tells, leb_tells}
use Rattle.std.proofs.lemmas.Option.{slice_get_past}
use Rattle.circular_buffer.proofs.Places.{slice_get-set_other, slice_get-set_same}

before : (k n : ℕ) → k < n → nat_lt k n ≡ true
before k n below = elim (leb_tells (suc k) n) [ inl less ↦ less.0 | inr more ↦ absurd (omega (arith, below, more.1)) ]

behind : (k n : ℕ) → n ≤ k → nat_lt k n ≡ false
behind k n past = elim (leb_tells (suc k) n) [ inl less ↦ absurd (omega (arith, past, less.1)) | inr more ↦ more.0 ]

still : (k n : ℕ) → k ≢ n → nat_lt k n ≡ nat_lt k (n + 1)
still k n other = elim (leb_tells (suc k) n) [
  | inl less ↦ less.0 ∙ sym (before k (n + 1) (omega (arith, less.1)))
  | inr more ↦ more.0 ∙ sym (behind k (n + 1) (omega (arith, more.1, other)))
]

-- The first `n` items of `old` were changed, each with its place, and this led to `now`.
abbrev pub Changed : {X : Type 0} (change : ℕ → X → X) (old now : List X) (n : ℕ) → Type 0
Changed change old now n =
    (k : ℕ) → slice_get now k ≡ (if nat_lt k n then option_map (change k) (slice_get old k) else slice_get old k)

pub changed-none : {X : Type 0} (change : ℕ → X → X) (old : List X) → Changed change old old 0
changed-none change old k =
    sym (ap (λ (b : Bool). if b then option_map (change k) (slice_get old k) else slice_get old k) (behind k 0 (omega arith)))

module _ {X : Type 0} (change : ℕ → X → X) (old now : List X) (n : ℕ) (each : Changed change old now n) where
  abbrev at : (k : ℕ) → Bool → Option X
  at k b = if b then option_map (change k) (slice_get old k) else slice_get old k

  -- The next item hasn't changed yet.
  pub not-yet : slice_get now n ≡ slice_get old n
  not-yet = each n ∙ ap (at n) (behind n n (omega arith))

  pub changed-one : (new : List X) (item changed : X) → n < length now → slice_get now n ≡ Some item → changed ≡ change n item
      → new ≡ slice_set now n changed → Changed change old new (n + 1)
  changed-one new item changed below has by is k = elim (eqb_tells k n) [
    | inl same ↦ (
        let was : slice_get old n ≡ Some item = sym not-yet ∙ has in
        rw (same.1) (ap (λ (l : List X). slice_get l n) is ∙ slice_get-set_same now n changed below
        ∙ ap (λ (x : X). Some x) by ∙ ap (option_map (change n)) (sym was)
        ∙ ap (at n) (sym (before n (n + 1) (omega arith)))))
    | inr differs ↦ ap (λ (l : List X). slice_get l k) is ∙ slice_get-set_other now n k changed differs.1
        ∙ each k ∙ ap (at k) (still k n differs.1)
  ]

  -- All items were changed.
  pub changed-all : length now ≤ n → (k : ℕ) → slice_get now k ≡ option_map (change k) (slice_get old k)
  changed-all all k = elim (leb_tells (suc k) n) [
    | inl below ↦ each k ∙ ap (at k) below.0
    | inr past ↦ (let none = slice_get_past now k (omega (arith, all, past.1)) in
        none ∙ ap (option_map (change k)) (sym none ∙ each k ∙ ap (at k) past.0))
  ]
