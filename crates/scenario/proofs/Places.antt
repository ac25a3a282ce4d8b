-- Lemmas about the place of the first item that passes a test.
use Rattle.std.proofs.Common.{◌≡◌, ◌∙◌, ◌+◌, ◌≤◌, ℕ, Bool, true, false, cond, List, [], ◌∷◌, Some, None}
use Rattle.std.proofs.Common.{length, map, not, ap, refl, nat_lt, arith}
use Rattle.std.specs.List.{position, position_or_len, prefix_len}
use Rattle.std.proofs.lemmas.Bool.Decides.{nat_tests}
use Rattle.std.proofs.lemmas.List.{length-map}
use Rattle.std.proofs.lemmas.List.Sums.{prefix_len-le-length}

prefix_len-map : {X Y : Type 0} (p : Y → Bool) (f : X → Y) (xs : List X) → prefix_len p (map f xs) ≡ prefix_len (λ x. p (f x)) xs
prefix_len-map p f [] = refl
prefix_len-map p f (x ∷ xs) = ap (λ n. cond (p (f x)) (1 + n) 0) (prefix_len-map p f xs)

pub position-map : {X Y : Type 0} (p : Y → Bool) (f : X → Y) (xs : List X) → position p (map f xs) ≡ position (λ x. p (f x)) xs
position-map p f xs =
    let place = prefix_len-map (λ y. not (p y)) f xs in
    ap (λ n. cond (nat_lt n (length (map f xs))) (Some n) None) place
    ∙ ap (λ n. cond (nat_lt (prefix_len (λ x. not (p (f x))) xs) n) (Some (prefix_len (λ x. not (p (f x))) xs)) None) (length-map xs f)

if-some : (b : Bool) (n k : ℕ) → Some k ≡ cond b (Some n) None → k ≡ n
if-some true n k e = cc
if-some false n k e = cc

if-none : (b : Bool) (n : ℕ) → None ≡ cond b (Some n) None → b ≡ false
if-none true n e = cc
if-none false n e = refl

not-less : (m n : ℕ) → nat_lt m n ≡ false → n ≤ m
not-less m n e = grind (arith, nat_tests)

pub place-found : {X : Type 0} (p : X → Bool) (xs : List X) (k : ℕ) → Some k ≡ position p xs → k ≡ position_or_len p xs
place-found p xs k found = if-some (nat_lt (position_or_len p xs) (length xs)) (position_or_len p xs) k found

pub place-missing : {X : Type 0} (p : X → Bool) (xs : List X) → None ≡ position p xs → length xs ≡ position_or_len p xs
place-missing p xs missing =
    let most = prefix_len-le-length (λ x. not (p x)) xs in
    let far = not-less _ _ (if-none (nat_lt (position_or_len p xs) (length xs)) (position_or_len p xs) missing) in
    omega (arith, most, far)
