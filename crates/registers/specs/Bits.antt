-- The bits of a register: one bit, a field of several bits, and the set of the places whose bits are 1, with laws of these sets. Places are
-- counted from 0, the lowest bit (our choice).
use Rattle.std.specs.Prelude.{◌≡◌, ◌==◌, ◌<◌, ◌-◌, ◌/◌, ◌%◌, ◌^◌, ◌↔◌, ◌⊎◌, ℕ, Bool, bit_and, bit_or}

-- The bit at this place is 1.
abbrev pub HasBit : ℕ → ℕ → Type 0
HasBit value place = value / 2 ^ place % 2 ≡ 1

-- Whether the bit at this place is 1.
abbrev pub is_set : ℕ → ℕ → Bool
is_set value place = value / 2 ^ place % 2 == 1

-- The number in the `width` bits from the place `lowest` on.
abbrev pub field : ℕ → ℕ → ℕ → ℕ
field value lowest width = value / 2 ^ lowest % 2 ^ width

-- The places that are in at least one of the two sets.
abbrev pub union : ℕ → ℕ → ℕ
union a b = bit_or a b

-- The places that are in both sets.
abbrev pub intersection : ℕ → ℕ → ℕ
intersection a b = bit_and a b

-- The places of the first set that are not in the second, in a register of 32 bits.
abbrev pub difference : ℕ → ℕ → ℕ
difference a b = bit_and a (2 ^ 32 - 1 - b)

-- The two sets have a place in common.
abbrev pub Meet : ℕ → ℕ → Type 0
Meet a b = 0 < bit_and a b

-- Each place of the first set is in the second.
abbrev pub IsSubset : ℕ → ℕ → Type 0
IsSubset a b = bit_and a b ≡ a

-- A bit is 1 in the union of two sets if and only if it is 1 in at least one of them.
abbrev pub UnionByPlaces : Type 0
UnionByPlaces = (a b place : ℕ) → HasBit (union a b) place ↔ (HasBit a place ⊎ HasBit b place)

-- A bit is 1 in the intersection of two sets if and only if it is 1 in both.
abbrev pub IntersectionByPlaces : Type 0
IntersectionByPlaces = (a b place : ℕ) → HasBit (intersection a b) place ↔ (HasBit a place × HasBit b place)

-- In registers of 32 bits: a bit is 1 in the difference if and only if it is 1 in `a` and 0 in `b`.
abbrev pub DifferenceByPlaces : Type 0
DifferenceByPlaces =
    (a b place : ℕ) → a < 2 ^ 32 → b < 2 ^ 32
    → HasBit (difference a b) place ↔ (HasBit a place × ¬ (HasBit b place))

-- In a register of 32 bits: two sets meet if and only if some bit is 1 in both.
abbrev pub MeetByPlaces : Type 0
MeetByPlaces = (a b : ℕ) → a < 2 ^ 32 → Meet a b ↔ ((place : ℕ) × HasBit a place × HasBit b place)

-- A set is a subset of another if and only if each bit that is 1 in the first is 1 in the second.
abbrev pub SubsetByPlaces : Type 0
SubsetByPlaces = (a b : ℕ) → IsSubset a b ↔ ((place : ℕ) → HasBit a place → HasBit b place)

-- No bit of 0 is 1.
abbrev pub EmptyByPlaces : Type 0
EmptyByPlaces = (place : ℕ) → ¬ (HasBit 0 place)

-- Two registers with the same bits are equal.
abbrev pub SameByPlaces : Type 0
SameByPlaces = (a b : ℕ) → ((place : ℕ) → HasBit a place ↔ HasBit b place) → a ≡ b
