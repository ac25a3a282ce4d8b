-- Places of a ring, by their distance from a driver's oldest slot.
use Rattle.std.proofs.Common.{◌≡◌, ◌≢◌, ◌≤◌, ◌<◌, ◌+◌, ◌-◌, ◌*◌, ◌%◌, ℕ, zero, suc, List, map, sym, ap, subst, ◌∙◌, ⊎_elim, arith}
use Rattle.std.specs.List.{All}
use Rattle.std.proofs.lemmas.Bool.{cases_lt}
use Rattle.std.proofs.lemmas.List.Elements.{All-map}
use Rattle.std.proofs.Math.Nat.{add-mod_right, mod-add-mod, mod-eq-sub-mod, mod-eq_of_lt}
use Rattle.descriptors.specs.declared.ring.Ring.{Ring}
use Rattle.descriptors.specs.Ring.{address_of, count_of, distance_of, offered_places, slots_from}
use Rattle.descriptors.specs.RingLaws.{distance-around, distance-forward, next-below, place}
use Rattle.adapter_model.specs.Slots.{outstanding}
use Rattle.bus.specs.DriversSlots.{IsDriversSlot}
use Rattle.adapter_model.specs.KnownRing.{KnowsRing}
use Rattle.bus.proofs.Rings.{slots-other}

pub place-add : (n from i j : ℕ) → place n from (i + j) ≡ place n (place n from i) j
place-add n from zero j = let none : 0 + j ≡ j = omega arith in ap (place n from) none
place-add n from (suc i) j =
    let more : suc i + j ≡ suc (i + j) = omega arith in
    ap (place n from) more ∙ place-add n ((from + 1) % n) i j

pub place-below : (n from i : ℕ) → from < n → place n from i < n
place-below n from zero slot = slot
place-below n from (suc i) slot = place-below n ((from + 1) % n) i (next-below n from slot)

pub place-next : (n from i : ℕ) → place n from (i + 1) ≡ (place n from i + 1) % n
place-next n from i = place-add n from i 1

pub place-sum : (n from i : ℕ) → from < n → place n from i ≡ (from + i) % n
place-sum n from zero slot =
    let none : from + 0 ≡ from = omega arith in
    sym (ap (λ (index : ℕ). index % n) none ∙ mod-eq_of_lt slot)
place-sum n from (suc i) slot =
    let sum : from + 1 + i ≡ from + suc i = omega arith in
    place-sum n ((from + 1) % n) i (next-below n from slot) ∙ mod-add-mod (from + 1) n i ∙ ap (λ (index : ℕ). index % n) sum

place-around : (n from : ℕ) → from < n → place n from n ≡ from
place-around n from slot = place-sum n from n slot ∙ add-mod_right from n ∙ mod-eq_of_lt slot

pub place-same : (n i from other : ℕ) → from < n → other < n → i ≤ n → place n from i ≡ place n other i → from ≡ other
place-same n i from other slot other_slot short same =
    let whole : i + (n - i) ≡ n = omega (arith, short) in
    let back : (index : ℕ) → index < n → place n (place n index i) (n - i) ≡ index = λ index below.
    sym (place-add n index i (n - i)) ∙ ap (place n index) whole ∙ place-around n index below in
    sym (back from slot) ∙ ap (λ (end : ℕ). place n end (n - i)) same ∙ back other other_slot

pub distance-place : (n from i : ℕ) → from < n → i < n → (place n from i + n - from) % n ≡ i
distance-place n from i slot short =
    ⊎_elim
    (λ (inner : from + i < n).
    let at : place n from i ≡ from + i = place-sum n from i slot ∙ mod-eq_of_lt inner in
    ap (λ (index : ℕ). (index + n - from) % n) at ∙ distance-forward n from (from + i) inner (omega arith) ∙ omega arith)
    (λ (around : n ≤ from + i).
    let wrapped : (from + i) % n ≡ from + i - n = mod-eq-sub-mod around ∙ mod-eq_of_lt (omega (arith, around, slot, short)) in
    let at : place n from i ≡ from + i - n = place-sum n from i slot ∙ wrapped in
    ap (λ (index : ℕ). (index + n - from) % n) at ∙ distance-around n from (from + i - n) slot (omega (arith, around, short))
    ∙ omega (arith, around, slot))
    (cases_lt (from + i) n)

pub places-differ : (n from i j : ℕ) → from < n → i < j → j < n → ¬ (place n from i ≡ place n from j)
places-differ n from i j slot before short same =
    let near = distance-place n from i slot (omega (arith, before, short)) in
    let far = distance-place n from j slot short in
    let both : (place n from i + n - from) % n ≡ (place n from j + n - from) % n = ap (λ (index : ℕ). (index + n - from) % n) same in
    absurd (omega (arith, near, far, both, before))

pub outstanding-known : (ring : Ring) (base n oldest i : ℕ) → KnowsRing ring base n (place n oldest i) → oldest < n → i < n
    → outstanding ring oldest ≡ map (λ (slot : ℕ). base + 16 * slot) (slots_from n oldest i)
unfolding offered_places
outstanding-known ring base n oldest i knows slot short =
    let far : distance_of ring oldest ring.tail ≡ i =
    ap (λ (count : ℕ). (ring.tail + count - oldest) % count) knows.slots ∙ ap (λ (tail : ℕ). (tail + n - oldest) % n) knows.last
    ∙ distance-place n oldest i slot short in
    ap (λ (count : ℕ). map (address_of ring) (slots_from (count_of ring) oldest count)) far
    ∙ ap (λ (count : ℕ). map (address_of ring) (slots_from count oldest i)) knows.slots
    ∙ ap (λ (first : ℕ). map (λ (index : ℕ). first + 16 * index) (slots_from n oldest i)) knows.begins

pub own-behind : (ring : Ring) (base n oldest i j : ℕ) → KnowsRing ring base n (place n oldest i) → oldest < n → i + j < n
    → IsDriversSlot ring oldest (place n (place n oldest i) j)
own-behind ring base n oldest i j knows slot short = subst (IsDriversSlot ring oldest) (place-add n oldest i j) (record {
  below = subst (λ (count : ℕ). place n oldest (i + j) < count) (sym knows.slots) within;
  apart =
      subst (λ (list : List ℕ). All Other list) (sym (outstanding-known ring base n oldest i knows slot (omega (arith, short))))
      (All-map Other (λ (index : ℕ). base + 16 * index) (slots_from n oldest i)
      (λ k d below same. others k d below (omega (arith, same, knows.begins))));
})
  where
    Other : ℕ → Type 0
    Other address = address ≢ address_of ring (place n oldest (i + j))

    within : place n oldest (i + j) < n
    within = place-below n oldest (i + j) slot

    others : All (λ other. ¬ (other ≡ place n oldest (i + j))) (slots_from n oldest i)
    others = slots-other n oldest i (place n oldest (i + j)) slot within
        (let far = distance-place n oldest (i + j) slot short in omega (arith, far))
