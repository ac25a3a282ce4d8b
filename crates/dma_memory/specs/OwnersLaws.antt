-- Lemmas about owners: how often numbers occur in lists, and how long these lists are.
use Rattle.std.proofs.Common.{◌≡◌, ◌≢◌, ◌≤◌, ◌<◌, ◌+◌, ◌++◌, ◌∷◌, [], ℕ, zero, suc, List, length, refl, sym, arith}
use Rattle.std.specs.Prelude.{◌==◌, nat_lt, if◌then◌else◌}
use Rattle.std.proofs.lemmas.Bool.Decides.{nat_tests}
use Rattle.std.proofs.lemmas.List.Sums.{sum_by-cons, sum_by-append, sum_by_push}
use Rattle.dma_memory.specs.Owners.{copies, HasOneOwner, HasNoSecondOwner, HaveSameNumbers, OwnersAddUp, MovesKeepOneOwner}
use Rattle.dma_memory.specs.Owners.{OwnedIsNowhereElse, OneOwnerCounts, NoSecondOwnerBounds, MissingLeavesRoom}

-- 1 if k is x, else 0.
abbrev pub if_same : ℕ → ℕ → ℕ
if_same k x = if k == x then 1 else 0

-- 1 if k is below n, else 0.
abbrev pub if_below : ℕ → ℕ → ℕ
if_below k n = if nat_lt k n then 1 else 0

pub if_same-yes : (k x : ℕ) → k ≡ x → if_same k x ≡ 1
if_same-yes k x same = grind (arith, nat_tests)

pub if_same-no : (k x : ℕ) → k ≢ x → if_same k x ≡ 0
if_same-no k x differ = grind (arith, nat_tests)

pub if_below-most : (k n : ℕ) → if_below k n ≤ 1
if_below-most k n = grind (arith, nat_tests)

pub if_below-yes : (k n : ℕ) → k < n → if_below k n ≡ 1
if_below-yes k n below = grind (arith, nat_tests)

pub if_below-no : (k n : ℕ) → n ≤ k → if_below k n ≡ 0
if_below-no k n past = grind (arith, nat_tests)

pub below_from_if_below : (k n : ℕ) → 0 < if_below k n → k < n
below_from_if_below k n some = grind (arith, nat_tests)

if_below-next : (k n next : ℕ) → next ≡ n + 1 → if_below k next ≡ if_below k n + if_same k n
if_below-next k n next is_next = grind (arith, nat_tests)

if_same-swap : (k x : ℕ) → if_same k x ≡ if_same x k
if_same-swap k x = grind (arith, nat_tests)

-- How often the number k occurs after a number x is put at the front of the list.
pub copies-cons : (k x : ℕ) (xs : List ℕ) → copies k (x ∷ xs) ≡ if_same k x + copies k xs
copies-cons k x xs = sum_by-cons (λ y. if k == y then 1 else 0) x xs

pub copies-itself : (k : ℕ) (xs : List ℕ) → copies k (k ∷ xs) ≡ 1 + copies k xs
copies-itself k xs = omega (arith, copies-cons k k xs, if_same-yes k k refl)

-- How often the number k occurs after a number x is put at the end of the list.
pub copies-push : (k x : ℕ) (xs : List ℕ) → copies k (xs ++ x ∷ []) ≡ copies k xs + if_same k x
copies-push k x xs = sum_by_push (λ y. if k == y then 1 else 0) xs x

pub copies-last : (k : ℕ) (xs : List ℕ) → copies k (xs ++ k ∷ []) ≡ copies k xs + 1
copies-last k xs = omega (arith, copies-push k k xs, if_same-yes k k refl)

pub copies-append : OwnersAddUp
copies-append k xs ys = sum_by-append (λ y. if k == y then 1 else 0) xs ys

-- If each number below n has one owner, no number has a second owner.
pub no_second_from_one : (n : ℕ) (xs : List ℕ) → HasOneOwner n xs → HasNoSecondOwner n xs
no_second_from_one n xs one k = omega (arith, one k)

-- If no number has a second owner in two joined lists, no number has a second owner in either list.
pub no_second-first : (n : ℕ) (xs ys : List ℕ) → HasNoSecondOwner n (xs ++ ys) → HasNoSecondOwner n xs
no_second-first n xs ys once k = omega (arith, once k, copies-append k xs ys)

pub no_second-last : (n : ℕ) (xs ys : List ℕ) → HasNoSecondOwner n (xs ++ ys) → HasNoSecondOwner n ys
no_second-last n xs ys once k = omega (arith, once k, copies-append k xs ys)

-- If no number has a second owner, each number in the list is below n and is in the list once.
pub known_from_no_second : (n number : ℕ) (xs : List ℕ) → HasNoSecondOwner n xs → 0 < copies number xs → number < n
known_from_no_second n number xs once some = below_from_if_below number n (omega (arith, once number))

pub once_from_no_second : (n number : ℕ) (xs : List ℕ) → HasNoSecondOwner n xs → copies number xs ≤ 1
once_from_no_second n number xs once = omega (arith, once number, if_below-most number n)

-- If each number below n has one owner, each number below n has one owner in each list with the same numbers.
pub one_owner-same : (n : ℕ) (xs ys : List ℕ) → HasOneOwner n xs → HaveSameNumbers xs ys → HasOneOwner n ys
one_owner-same n xs ys one same k = omega (arith, one k, same k)

pub one_owner-swap : (n : ℕ) (xs ys : List ℕ) → HasOneOwner n (xs ++ ys) → HasOneOwner n (ys ++ xs)
one_owner-swap n xs ys one k = omega (arith, one k, copies-append k xs ys, copies-append k ys xs)

-- A number added to either of two lists is added to the joined list.
pub taken-first : (number : ℕ) (xs xs' ys : List ℕ) → HaveSameNumbers (number ∷ xs) xs' → HaveSameNumbers (number ∷ (xs ++ ys)) (xs' ++ ys)
taken-first number xs xs' ys same k =
    omega (arith, same k, copies-append k xs ys, copies-append k xs' ys, copies-cons k number xs, copies-cons k number (xs ++ ys))

pub taken-last : (number : ℕ) (xs ys ys' : List ℕ) → HaveSameNumbers (number ∷ ys) ys' → HaveSameNumbers (number ∷ (xs ++ ys)) (xs ++ ys')
taken-last number xs ys ys' same k =
    omega (arith, same k, copies-append k xs ys, copies-append k xs ys', copies-cons k number ys, copies-cons k number (xs ++ ys))

-- If no number has a second owner, no number has a second owner after a number is removed from the list. The removed number is below n, and
-- isn't in the rest of the list.
pub no_second-taken : (n number : ℕ) (xs xs' : List ℕ) → HasNoSecondOwner n xs → HaveSameNumbers xs (number ∷ xs') → HasNoSecondOwner n xs'
no_second-taken n number xs xs' once taken k = omega (arith, once k, taken k, copies-cons k number xs')

pub known_from_taken : (n number : ℕ) (xs xs' : List ℕ) → HasNoSecondOwner n xs → HaveSameNumbers xs (number ∷ xs') → number < n
known_from_taken n number xs xs' once taken =
    known_from_no_second n number xs once (omega (arith, taken number, copies-itself number xs'))

pub out_from_taken : (n number : ℕ) (xs xs' : List ℕ) → HasNoSecondOwner n xs → HaveSameNumbers xs (number ∷ xs') → copies number xs' ≡ 0
out_from_taken n number xs xs' once taken =
    omega (arith, once_from_no_second n number xs once, taken number, copies-itself number xs')

if_same-fits : (k x n m : ℕ) → m ≤ if_below k n → (k ≡ x → m ≡ 0) → x < n → if_same k x + m ≤ if_below k n
if_same-fits k x n m once out known = grind (arith, nat_tests)

-- If no number has a second owner, this remains true after a number below n that isn't in the list is added.
pub no_second-given : (n number : ℕ) (xs xs' : List ℕ) → HasNoSecondOwner n xs → number < n → copies number xs ≡ 0
    → HaveSameNumbers (number ∷ xs) xs' → HasNoSecondOwner n xs'
no_second-given n number xs xs' once known out given k =
    let fits = if_same-fits k number n (copies k xs) (once k) (λ same. rw same out) known in
    omega (arith, given k, copies-cons k number xs)

pub one_owner-moved : MovesKeepOneOwner
one_owner-moved n number giver giver' taker taker' one taken given k =
    omega (
      arith,
      one k,
      taken k,
      given k,
      copies-append k giver taker,
      copies-append k giver' taker',
      copies-cons k number giver',
      copies-cons k number taker,
    )

pub owned-nowhere_else : OwnedIsNowhereElse
owned-nowhere_else n number xs ys one some =
    let both = copies-append number xs ys in
    (below_from_if_below number n (omega (arith, one number)), omega (arith, one number, if_below-most number n))

-- The number of places of a list at which there are numbers below n.
abbrev places : ℕ → List ℕ → ℕ
places zero xs = 0
places (suc n) xs = places n xs + copies n xs

places-none : (n : ℕ) → places n [] ≡ 0
places-none zero = refl
places-none (suc n) = omega (arith, places-none n)

places-cons : (n x : ℕ) (xs : List ℕ) → places n (x ∷ xs) ≡ if_below x n + places n xs
places-cons zero x xs = omega (arith, if_below-no x 0 (omega arith))
places-cons (suc n) x xs = omega (arith, places-cons n x xs, copies-cons n x xs, if_below-next x n (suc n) (omega arith), if_same-swap x n)

length-places : (n : ℕ) (xs : List ℕ) → HasNoSecondOwner n xs → length xs ≡ places n xs
length-places n [] once = sym (places-none n)
length-places n (x ∷ xs) once =
    let known = known_from_no_second n x (x ∷ xs) once (omega (arith, copies-itself x xs)) in
    let rest = no_second-taken n x (x ∷ xs) xs once (λ k. refl) in
    omega (arith, if_below-yes x n known, length-places n xs rest, places-cons n x xs)

places-once : (m : ℕ) (xs : List ℕ) → ((k : ℕ) → k < m → copies k xs ≡ 1) → places m xs ≡ m
places-once zero xs once = refl
places-once (suc m) xs once =
    omega (arith, once m (omega arith), places-once m xs (λ k below. once k (omega arith)))

places-most : (m : ℕ) (xs : List ℕ) → ((k : ℕ) → copies k xs ≤ 1) → places m xs ≤ m
places-most zero xs most = omega arith
places-most (suc m) xs most = omega (arith, most m, places-most m xs most)

pub length-one_owner : OneOwnerCounts
length-one_owner n xs one =
    omega (
      arith,
      length-places n xs (no_second_from_one n xs one),
      places-once n xs
          (λ k below. omega (arith, one k, if_below-yes k n below)),
    )

pub length-no_second : NoSecondOwnerBounds
length-no_second n xs once =
    omega (arith, length-places n xs once, places-most n xs (λ k. once_from_no_second n k xs once))

pub length-missing : MissingLeavesRoom
length-missing n number xs once known out =
    omega (arith, length-no_second n (number ∷ xs) (no_second-given n number xs (number ∷ xs) once known out (λ k. refl)))

-- If each number below n has one owner in `xs` and `ys` joined, and `xs` isn't empty, `ys` has fewer than n numbers.
pub length-elsewhere : (n number : ℕ) (xs ys : List ℕ) → HasOneOwner n (xs ++ ys) → 0 < copies number xs → length ys < n
length-elsewhere n number xs ys one some =
    let missing = owned-nowhere_else n number ys xs (one_owner-swap n xs ys one) some in
    length-missing n number ys (no_second-last n xs ys (no_second_from_one n (xs ++ ys) one)) missing.0 missing.1

-- If each number below n has one owner, and n is added to the list, each number below n + 1 has one owner.
pub one_owner-push : (n : ℕ) (xs : List ℕ) → HasOneOwner n xs → HasOneOwner (n + 1) (xs ++ n ∷ [])
one_owner-push n xs one k = omega (arith, one k, copies-push k n xs, if_below-next k n (n + 1) refl)
