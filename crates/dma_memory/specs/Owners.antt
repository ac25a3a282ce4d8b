-- The owners of numbers, and laws about them (our choice). The numbers of an owner are a list. The numbers of several owners are their
-- lists, joined. A number has an owner for each place in the list at which it occurs.
use Rattle.std.specs.Prelude.{◌≡◌, ◌≤◌, ◌<◌, ◌+◌, ◌↔◌, ◌==◌, ◌++◌, ◌∷◌, ℕ, List, Some, length, count_by, nat_lt, slice_get, if◌then◌else◌}

-- The number of times that a number occurs in a list.
abbrev pub copies : ℕ → List ℕ → ℕ
copies k numbers = count_by (λ number. k == number) numbers

-- Each number below n has one owner: it occurs in the list exactly once. No other number occurs.
abbrev pub HasOneOwner : ℕ → List ℕ → Type 0
HasOneOwner n numbers = (k : ℕ) → copies k numbers ≡ (if nat_lt k n then 1 else 0)

-- No number below n has a second owner: each occurs in the list at most once. No other number occurs.
abbrev pub HasNoSecondOwner : ℕ → List ℕ → Type 0
HasNoSecondOwner n numbers = (k : ℕ) → copies k numbers ≤ (if nat_lt k n then 1 else 0)

-- Each number occurs as often in one list as in the other.
abbrev pub HaveSameNumbers : List ℕ → List ℕ → Type 0
HaveSameNumbers xs ys = (k : ℕ) → copies k xs ≡ copies k ys

-- Each number below n is at exactly one place of the list. No other number is in the list.
pub record EachOccursOnce (n : ℕ) (numbers : List ℕ) : Type 0 where
  -- Each number below n is in the list.
  pub somewhere : (k : ℕ) → k < n → (i : ℕ) × (slice_get numbers i ≡ Some k)
  -- No number is at two places.
  pub nowhere_else : (i j k : ℕ) → slice_get numbers i ≡ Some k → slice_get numbers j ≡ Some k → i ≡ j
  -- Each number of the list is below n.
  pub known : (i k : ℕ) → slice_get numbers i ≡ Some k → k < n

-- Each number below n has one owner by counts (`HasOneOwner`) if and only if each has one by places (`EachOccursOnce`).
abbrev pub CountsArePlaces : Type 0
CountsArePlaces = (n : ℕ) (numbers : List ℕ) → HasOneOwner n numbers ↔ EachOccursOnce n numbers

-- The count of a number in two joined lists is the sum of its counts in the two lists.
abbrev pub OwnersAddUp : Type 0
OwnersAddUp = (k : ℕ) (xs ys : List ℕ) → copies k (xs ++ ys) ≡ copies k xs + copies k ys

-- If each number below n has one owner, this remains true after a number moves from the owner `giver` to the owner `taker`.
abbrev pub MovesKeepOneOwner : Type 0
MovesKeepOneOwner = (n number : ℕ) (giver giver' taker taker' : List ℕ) → HasOneOwner n (giver ++ taker)
    → HaveSameNumbers giver (number ∷ giver') → HaveSameNumbers (number ∷ taker) taker' → HasOneOwner n (giver' ++ taker')

-- If each number below n has one owner in the list of `xs` and then `ys`, each number of `ys` is below n, and isn't in `xs`.
abbrev pub OwnedIsNowhereElse : Type 0
OwnedIsNowhereElse = (n number : ℕ) (xs ys : List ℕ) → HasOneOwner n (xs ++ ys) → 0 < copies number ys → (number < n)
    × (copies number xs ≡ 0)

-- If each number below n has one owner, the list has n numbers.
abbrev pub OneOwnerCounts : Type 0
OneOwnerCounts = (n : ℕ) (numbers : List ℕ) → HasOneOwner n numbers → length numbers ≡ n

-- If all numbers are below n, and no number has a second owner, the list has at most n numbers.
abbrev pub NoSecondOwnerBounds : Type 0
NoSecondOwnerBounds = (n : ℕ) (numbers : List ℕ) → HasNoSecondOwner n numbers → length numbers ≤ n

-- If no number has a second owner (`HasNoSecondOwner`), and a number below n is missing, the list has fewer than n numbers.
abbrev pub MissingLeavesRoom : Type 0
MissingLeavesRoom = (n number : ℕ) (numbers : List ℕ) → HasNoSecondOwner n numbers → number < n → copies number numbers ≡ 0
    → length numbers < n
