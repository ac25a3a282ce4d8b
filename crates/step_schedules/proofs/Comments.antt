-- The words before a comment, one by one.
use Rattle.std.proofs.Common.{◌≡◌, ◌<◌, ◌≤◌, ◌+◌, ℕ, Bool, true, false, List, [], ◌∷◌, length, get_or, drop, suc, zero, arith, refl}
use Rattle.std.specs.List.{prefix_len}

pub prefix_more : {X : Type 0} (p : X → Bool) (xs : List X) (k : ℕ) (d : X) → k < length xs → p (get_or xs k d) ≡ true
    → prefix_len p (drop k xs) ≡ 1 + prefix_len p (drop (k + 1) xs)
prefix_more p [] k d below is = absurd (omega (arith, below))
prefix_more p (x ∷ xs) zero d below is = rw is refl
prefix_more p (x ∷ xs) (suc k) d below is =
    let next : suc k + 1 ≡ suc (k + 1) = omega arith in
    rw next (prefix_more p xs k d (omega (arith, below)) is)

pub prefix_ends : {X : Type 0} (p : X → Bool) (xs : List X) (k : ℕ) (d : X) → k < length xs → p (get_or xs k d) ≡ false
    → prefix_len p (drop k xs) ≡ 0
prefix_ends p [] k d below isnt = absurd (omega (arith, below))
prefix_ends p (x ∷ xs) zero d below isnt = rw isnt refl
prefix_ends p (x ∷ xs) (suc k) d below isnt = prefix_ends p xs k d (omega (arith, below)) isnt

pub prefix_whole : {X : Type 0} (p : X → Bool) (xs : List X) (k : ℕ) → length xs ≤ k → prefix_len p (drop k xs) ≡ 0
prefix_whole p [] zero all = refl
prefix_whole p [] (suc k) all = refl
prefix_whole p (x ∷ xs) zero all = absurd (omega (arith, all))
prefix_whole p (x ∷ xs) (suc k) all = prefix_whole p xs k (omega (arith, all))
