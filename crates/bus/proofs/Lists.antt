-- What holds for each element, for each pair of elements, and for the first elements, in parts of a list.
use Rattle.std.proofs.Common.{◌≡◌, ◌++◌, ◌∷◌, [], Bool, true, false, suc, List, map, refl, sym, ◌∙◌, arith, cond}
use Rattle.std.specs.List.{All, AllPairs, take_while}
use Rattle.std.proofs.lemmas.List.Elements.{All-cons, All-append, All-map}
use Rattle.std.proofs.lemmas.List.Kept.{AllPairs-cons}
use Rattle.std.proofs.lemmas.List.Sums.{take_while-cons}

-- Facts of each element.

pub all-none : {X : Type 0} (P : X → Type 0) → All P []
all-none P k d below = absurd (omega arith)

pub all-head : {X : Type 0} (P : X → Type 0) (x : X) (xs : List X) → All P (x ∷ xs) → P x
all-head P x xs all = all 0 x (omega arith)

pub all-tail : {X : Type 0} (P : X → Type 0) (x : X) (xs : List X) → All P (x ∷ xs) → All P xs
all-tail P x xs all k d below = all (suc k) d (omega arith)

pub all-weaker : {X : Type 0} (P Q : X → Type 0) (xs : List X) → ((x : X) → P x → Q x) → All P xs → All Q xs
all-weaker P Q xs so all k d below = so _ (all k d below)

pub all-left : {X : Type 0} (P : X → Type 0) (xs ys : List X) → All P (xs ++ ys) → All P xs
all-left P [] ys all = all-none P
all-left P (x ∷ xs) ys all = All-cons P x xs (all-head P x (xs ++ ys) all) (all-left P xs ys (all-tail P x (xs ++ ys) all))

pub all-right : {X : Type 0} (P : X → Type 0) (xs ys : List X) → All P (xs ++ ys) → All P ys
all-right P [] ys all = all
all-right P (x ∷ xs) ys all = all-right P xs ys (all-tail P x (xs ++ ys) all)

pub all-without : {X : Type 0} (P : X → Type 0) (xs : List X) (y : X) (ys : List X) → All P (xs ++ y ∷ ys) → All P (xs ++ ys)
all-without P xs y ys all = All-append P xs ys (all-left P xs (y ∷ ys) all) (all-tail P y ys (all-right P xs (y ∷ ys) all))

pub all-replaced : {X : Type 0} (P : X → Type 0) (xs : List X) (y z : X) (ys : List X) → (P y → P z) → All P (xs ++ y ∷ ys)
    → All P (xs ++ z ∷ ys)
all-replaced P xs y z ys so all =
    let behind : All P (y ∷ ys) = all-right P xs (y ∷ ys) all in
    All-append P xs (z ∷ ys) (all-left P xs (y ∷ ys) all) (All-cons P z ys (so (all-head P y ys behind)) (all-tail P y ys behind))

pub all-unmapped : {X Y : Type 0} (P : Y → Type 0) (f : X → Y) (xs : List X) → All P (map f xs) → All (λ x. P (f x)) xs
all-unmapped P f [] all = all-none (λ x. P (f x))
all-unmapped P f (x ∷ xs) all = All-cons (λ y. P (f y)) x xs (all-head P (f x) (map f xs) all)
    (all-unmapped P f xs (all-tail P (f x) (map f xs) all))

pub map-same : {X Y : Type 0} (f g : X → Y) (xs : List X) → All (λ x. f x ≡ g x) xs → map f xs ≡ map g xs
map-same f g [] same = refl
map-same f g (x ∷ xs) same =
    let first : f x ≡ g x = all-head (λ y. f y ≡ g y) x xs same in
    let rest : map f xs ≡ map g xs = map-same f g xs (all-tail (λ y. f y ≡ g y) x xs same) in
    rw (first, rest) refl

-- Empty lists.

pub append-empty : {X : Type 0} (xs ys : List X) → xs ++ ys ≡ [] → (xs ≡ []) × (ys ≡ [])
append-empty [] ys none = (refl, none)
append-empty (x ∷ xs) ys none = absurd (cc)

pub map-empty : {X Y : Type 0} (f : X → Y) (xs : List X) → map f xs ≡ [] → xs ≡ []
map-empty f [] none = refl
map-empty f (x ∷ xs) none = absurd (cc)

-- Facts of each pair of elements.

pub pairs-none : {X : Type 0} (R : X → X → Type 0) → AllPairs R []
pairs-none R i j d before below = absurd (omega arith)

pub pairs-head : {X : Type 0} (R : X → X → Type 0) (x : X) (xs : List X) → AllPairs R (x ∷ xs) → All (R x) xs
pairs-head R x xs pairs k d below = pairs 0 (suc k) d (omega arith) (omega arith)

pub pairs-tail : {X : Type 0} (R : X → X → Type 0) (x : X) (xs : List X) → AllPairs R (x ∷ xs) → AllPairs R xs
pairs-tail R x xs pairs i j d before below = pairs (suc i) (suc j) d (omega arith) (omega arith)

pub pairs-before : {X : Type 0} (R : X → X → Type 0) (xs : List X) (y : X) (ys : List X) → AllPairs R (xs ++ y ∷ ys) → All (λ x. R x y) xs
pairs-before R [] y ys pairs = all-none (λ x. R x y)
pairs-before R (x ∷ xs) y ys pairs =
    All-cons (λ z. R z y) x xs
    (all-head (R x) y ys (all-right (R x) xs (y ∷ ys) (pairs-head R x (xs ++ y ∷ ys) pairs)))
    (pairs-before R xs y ys (pairs-tail R x (xs ++ y ∷ ys) pairs))

pub pairs-right : {X : Type 0} (R : X → X → Type 0) (xs ys : List X) → AllPairs R (xs ++ ys) → AllPairs R ys
pairs-right R [] ys pairs = pairs
pairs-right R (x ∷ xs) ys pairs = pairs-right R xs ys (pairs-tail R x (xs ++ ys) pairs)

pub pairs-behind : {X : Type 0} (R : X → X → Type 0) (xs : List X) (y : X) (ys : List X) → AllPairs R (xs ++ y ∷ ys) → All (R y) ys
pairs-behind R xs y ys pairs = pairs-head R y ys (pairs-right R xs (y ∷ ys) pairs)

pub pairs-without : {X : Type 0} (R : X → X → Type 0) (xs : List X) (y : X) (ys : List X) → AllPairs R (xs ++ y ∷ ys)
    → AllPairs R (xs ++ ys)
pairs-without R [] y ys pairs = pairs-tail R y ys pairs
pairs-without R (x ∷ xs) y ys pairs =
    AllPairs-cons R x (xs ++ ys)
    (all-without (R x) xs y ys (pairs-head R x (xs ++ y ∷ ys) pairs))
    (pairs-without R xs y ys (pairs-tail R x (xs ++ y ∷ ys) pairs))

pub pairs-replaced : {X : Type 0} (R : X → X → Type 0) (xs : List X) (y z : X) (ys : List X) → ((x : X) → R x y → R x z)
    → ((x : X) → R y x → R z x) → AllPairs R (xs ++ y ∷ ys) → AllPairs R (xs ++ z ∷ ys)
pairs-replaced R [] y z ys before behind pairs =
    AllPairs-cons R z ys (all-weaker (R y) (R z) ys behind (pairs-head R y ys pairs)) (pairs-tail R y ys pairs)
pairs-replaced R (x ∷ xs) y z ys before behind pairs =
    AllPairs-cons R x (xs ++ z ∷ ys)
    (all-replaced (R x) xs y z ys (before x) (pairs-head R x (xs ++ y ∷ ys) pairs))
    (pairs-replaced R xs y z ys before behind (pairs-tail R x (xs ++ y ∷ ys) pairs))

pub pairs-mapped : {X Y : Type 0} (R : Y → Y → Type 0) (f : X → Y) (xs : List X) → AllPairs (λ x y. R (f x) (f y)) xs
    → AllPairs R (map f xs)
pairs-mapped R f [] pairs = pairs-none R
pairs-mapped R f (x ∷ xs) pairs =
    AllPairs-cons R (f x) (map f xs)
    (All-map (R (f x)) f xs (pairs-head (λ a b. R (f a) (f b)) x xs pairs))
    (pairs-mapped R f xs (pairs-tail (λ a b. R (f a) (f b)) x xs pairs))

-- The elements before the first element that fails a test.

pub take_while-passes : {X : Type 0} (p : X → Bool) (xs : List X) → All (λ x. p x ≡ true) (take_while p xs)
take_while-passes p [] = all-none (λ x. p x ≡ true)
take_while-passes {X} p (x ∷ xs) =
    let P : List X → Type 0 = λ ys. All (λ y. p y ≡ true) ys in
    let rest = take_while-passes p xs in
    rw (take_while-cons p x xs) (by-test (p x) refl rest)
  where
    by-test : (b : Bool) → p x ≡ b → All (λ y. p y ≡ true) (take_while p xs) → All (λ y. p y ≡ true) (cond b (x ∷ take_while p xs) [])
    by-test true is rest = All-cons (λ y. p y ≡ true) x (take_while p xs) is rest
    by-test false is rest = all-none (λ y. p y ≡ true)

pub take_while-split : {X : Type 0} (p : X → Bool) (xs ys : List X) → All (λ x. p x ≡ true) xs → All (λ y. p y ≡ false) ys
    → take_while p (xs ++ ys) ≡ xs
take_while-split p [] [] pass fail = refl
take_while-split p [] (y ∷ ys) pass fail =
    let no : p y ≡ false = all-head (λ z. p z ≡ false) y ys fail in
    take_while-cons p y ys ∙ rw no refl
take_while-split p (x ∷ xs) ys pass fail =
    let yes : p x ≡ true = all-head (λ z. p z ≡ true) x xs pass in
    let rest : take_while p (xs ++ ys) ≡ xs = take_while-split p xs ys (all-tail (λ z. p z ≡ true) x xs pass) fail in
    take_while-cons p x (xs ++ ys) ∙ rw (yes, rest) refl

pub take_while-same : {X : Type 0} (p q : X → Bool) (xs : List X) → All (λ x. q x ≡ p x) xs → take_while q xs ≡ take_while p xs
take_while-same p q [] same = refl
take_while-same p q (x ∷ xs) same =
    let here : q x ≡ p x = all-head (λ y. q y ≡ p y) x xs same in
    let rest : take_while q xs ≡ take_while p xs = take_while-same p q xs (all-tail (λ y. q y ≡ p y) x xs same) in
    take_while-cons q x xs ∙ rw (here, rest) refl ∙ sym (take_while-cons p x xs)
