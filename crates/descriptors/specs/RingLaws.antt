-- Lemmas about the next slot and distances in a ring, and about the slots that the adapter owns, also after head or tail advances.
use Rattle.std.proofs.Common.{◌≡◌, ⊎_elim, ◌≤◌, ◌<◌, ◌+◌, ◌-◌, ◌%◌, ◌++◌, ◌∷◌, [], ℕ, zero, suc, List, length, refl, ap, ◌∙◌, arith}
use Rattle.std.proofs.lemmas.Bool.{cases_eq, cases_lt}
use Rattle.std.proofs.lemmas.Nat.{mod_below}
use Rattle.std.proofs.Math.Nat.{mod-eq_of_lt, mod_self, add-mod_left}
use Rattle.descriptors.specs.Ring.{count_of, distance_of, slots_from, offered_places, OfferedBeginAtHead, NoneIsOffered, OfferedAreDistance}
use Rattle.descriptors.specs.Ring.{OfferedGrowAtTail}

-- The slot after the slot with index i has index i + 1, or 0 after the last slot.
pub next-inner : (n i : ℕ) → i + 1 < n → (i + 1) % n ≡ i + 1
next-inner n i inner = mod-eq_of_lt inner

pub next-last : (n i : ℕ) → i + 1 ≡ n → (i + 1) % n ≡ 0
next-last n i last = ap (λ (k : ℕ). k % n) last ∙ mod_self n

-- The index after a slot is the index of a slot.
pub next-below : (n i : ℕ) → i < n → (i + 1) % n < n
next-below n i slot = mod_below (i + 1) n (omega arith)

-- The distance to a slot with the same or a greater index is the difference of the indices. To a slot with a smaller index, the distance
-- wraps.
pub distance-forward : (n from to : ℕ) → to < n → from ≤ to → (to + n - from) % n ≡ to - from
distance-forward n from to slot forward =
    let moved : to + n - from ≡ n + (to - from) = omega arith in
    ap (λ (k : ℕ). k % n) moved ∙ add-mod_left n (to - from) ∙ mod-eq_of_lt (omega arith)

pub distance-around : (n from to : ℕ) → from < n → to < from → (to + n - from) % n ≡ to + n - from
distance-around n from to slot around = mod-eq_of_lt (omega arith)

-- If two slots differ, the distance from the slot after the first one to the second one is shorter by one.
pub distance-step : (n from to : ℕ) → from < n → to < n → ¬ (from ≡ to) → (to + n - from) % n ≡ suc ((to + n - (from + 1) % n) % n)
distance-step n from to slot_from slot_to apart =
    ⊎_elim
    (λ (around : to < from).
    ⊎_elim
    (λ (last : from + 1 ≡ n).
    rw (next-last n from last, distance-around n from to slot_from around, distance-forward n 0 to slot_to (omega arith)) (omega arith))
    (λ (inner : ¬ (from + 1 ≡ n)).
    rw (
      next-inner n from (omega arith),
      distance-around n from to slot_from around,
      distance-around n (from + 1) to (omega arith)
          (omega arith),
    ) (omega arith))
    (cases_eq (from + 1) n))
    (λ (forward : from ≤ to).
    rw (next-inner n from (omega arith), distance-forward n from to slot_to forward, distance-forward n (from + 1) to slot_to (omega arith))
    (omega arith))
    (cases_lt to from)

-- The distance to the slot after `to` is one more than the distance to `to`, if that slot isn't `from`.
pub distance-grows : (n from to : ℕ) → from < n → to < n → ¬ ((to + 1) % n ≡ from)
    → ((to + 1) % n + n - from) % n ≡ suc ((to + n - from) % n)
distance-grows n from to slot_from slot_to apart =
    ⊎_elim
    (λ (last : to + 1 ≡ n).
    let first : (to + 1) % n ≡ 0 = next-last n to last in
    let around : 0 < from = omega arith in
    rw (first, distance-around n from 0 slot_from around, distance-forward n from to slot_to (omega arith)) (omega arith))
    (λ (inner : ¬ (to + 1 ≡ n)).
    let same : (to + 1) % n ≡ to + 1 = next-inner n to (omega arith) in
    ⊎_elim
    (λ (around : to < from). rw (same, distance-around n from (to + 1) slot_from (omega arith), distance-around n from to slot_from around)
    (omega arith))
    (λ (forward : from ≤ to). rw
    (same, distance-forward n from (to + 1) (omega arith) (omega arith), distance-forward n from to slot_to forward) (omega arith))
    (cases_lt to from))
    (cases_eq (to + 1) n)

-- The list of k slots has k entries.
pub length-slots_from : (n index k : ℕ) → length (slots_from n index k) ≡ k
length-slots_from n index zero = refl
length-slots_from n index (suc k) = ap suc (length-slots_from n ((index + 1) % n) k)

-- The slot that is k slots after an index.
abbrev pub place : ℕ → ℕ → ℕ → ℕ
place n index zero = index
place n index (suc k) = place n ((index + 1) % n) k

-- The list of k + 1 slots is the list of k slots and the next slot.
pub slots_from-push : (n index k : ℕ) → slots_from n index (suc k) ≡ slots_from n index k ++ place n index k ∷ []
slots_from-push n index zero = refl
slots_from-push n index (suc k) = ap (λ (slots : List ℕ). index ∷ slots) (slots_from-push n ((index + 1) % n) k)

-- If the distance from one slot to another is k, the slot that is k slots after the first is the other.
pub place-distance : (n k from to : ℕ) → from < n → to < n → (to + n - from) % n ≡ k → place n from k ≡ to
place-distance n zero from to slot_from slot_to none =
    ⊎_elim
    (λ (same : from ≡ to). same)
    (λ (apart : ¬ (from ≡ to)).
    let step = distance-step n from to slot_from slot_to apart in
    absurd (omega arith))
    (cases_eq from to)
place-distance n (suc k) from to slot_from slot_to far =
    ⊎_elim
    (λ (same : from ≡ to).
    let near = distance-forward n from to slot_to (omega arith) in
    absurd (omega arith))
    (λ (apart : ¬ (from ≡ to)).
    let step = distance-step n from to slot_from slot_to apart in
    place-distance n k ((from + 1) % n) to (next-below n from slot_from) slot_to (omega arith))
    (cases_eq from to)

pub places-head : OfferedBeginAtHead
unfolding offered_places
places-head ring sound apart = ap (slots_from (count_of ring) ring.head)
    (distance-step (count_of ring) ring.head ring.tail sound.head sound.tail apart)

pub places-none : NoneIsOffered
unfolding offered_places
places-none ring same =
    let n = count_of ring in
    let round : ring.tail + n - ring.head ≡ n = omega (arith, same) in
    ap (slots_from n ring.head) (ap (λ (k : ℕ). k % n) round ∙ mod_self n)

pub length-places : OfferedAreDistance
unfolding offered_places
length-places ring = length-slots_from (count_of ring) ring.head (distance_of ring ring.head ring.tail)

pub places-tail : OfferedGrowAtTail
unfolding offered_places
places-tail ring sound apart =
    let n = count_of ring in
    let d = distance_of ring ring.head ring.tail in
    let last : place n ring.head d ≡ ring.tail = place-distance n d ring.head ring.tail sound.head sound.tail refl in
    ap (slots_from n ring.head) (distance-grows n ring.head ring.tail sound.head sound.tail apart)
    ∙ slots_from-push n ring.head d
    ∙ ap (λ (slot : ℕ). slots_from n ring.head d ++ slot ∷ []) last
