-- The place of the first item that passes a test.
use Rattle.std.proofs.Common.{◌≡◌, ◌∙◌, ◌+◌, ℕ, Bool, true, false, cond, List, [], ◌∷◌, Option, Some, None}
use Rattle.std.proofs.Common.{ap, length, map, nat_lt, not, refl}
use Rattle.std.specs.List.{position, position_or_len, prefix_len}
use Rattle.std.proofs.lemmas.List.{length-map}

prefix_len-map : {X Y : Type 0} (p : Y → Bool) (f : X → Y) (xs : List X)
    → prefix_len p (map f xs) ≡ prefix_len (λ x. p (f x)) xs
prefix_len-map p f [] = refl
prefix_len-map p f (x ∷ xs) = ap (λ n. cond (p (f x)) (1 + n) 0) (prefix_len-map p f xs)

-- The place if it is below `count`, else `None`.
abbrev place_below : (place count : ℕ) → Option ℕ
place_below place count = cond (nat_lt place count) (Some place) None

pub position-map : {X Y : Type 0} (p : Y → Bool) (f : X → Y) (xs : List X)
    → position p (map f xs) ≡ position (λ x. p (f x)) xs
position-map p f xs =
    ap (λ n. place_below n (length (map f xs))) (prefix_len-map (λ y. not (p y)) f xs)
    ∙ ap (place_below (prefix_len (λ x. not (p (f x))) xs)) (length-map xs f)

if-some : (b : Bool) (n k : ℕ) → Some k ≡ cond b (Some n) None → k ≡ n
if-some true n k e = cc
if-some false n k e = cc

pub place-found : {X : Type 0} (p : X → Bool) (xs : List X) (k : ℕ) → Some k ≡ position p xs → k ≡ position_or_len p xs
place-found p xs k found = if-some (nat_lt (position_or_len p xs) (length xs)) (position_or_len p xs) k found
