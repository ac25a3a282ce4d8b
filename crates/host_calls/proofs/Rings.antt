-- The laws of the number of offered slots of a ring.
use Rattle.std.proofs.Common.{◌≡◌, ◌<◌, ◌≤◌, ◌+◌, ◌-◌, ◌%◌, ℕ, sym, ap, ◌∙◌, arith, ⊎_elim}
use Rattle.std.proofs.lemmas.Bool.{cases_lt}
use Rattle.std.proofs.lemmas.Nat.{mod_below}
use Rattle.std.proofs.Math.Nat.{mod-eq_of_lt, add-mod_left}
use Rattle.descriptors.specs.RingLaws.{distance-around, distance-forward, distance-step}
use Rattle.host_calls.specs.Counts.{offered_in}
use Rattle.host_calls.specs.AnswersLaws.{NoSlotIsOffered, OneIsTaken, TailsOfferSlots}

distance-joins : (n h t v : ℕ) → h < n → t < n → v < n
    → (v + n - h) % n ≡ ((t + n - h) % n + (v + n - t) % n) % n
distance-joins n h t v slot_h slot_t slot_v = ⊎_elim
    (λ (far : t < h). ⊎_elim
    (λ (back : v < t). rw (distance-around n h t slot_h far, distance-around n t v slot_t back, distance-around n h v slot_h (omega arith))
    (whole (v + n - h) (t + n - h + (v + n - t)) (omega arith) (omega arith)))
    (λ (on : t ≤ v). rw (distance-around n h t slot_h far, distance-forward n t v slot_v on) (ap (λ (k : ℕ). k % n) (omega arith)))
    (cases_lt v t))
    (λ (near : h ≤ t). ⊎_elim
    (λ (back : v < t). rw (distance-forward n h t slot_t near, distance-around n t v slot_t back) (ap (λ (k : ℕ). k % n) (omega arith)))
    (λ (on : t ≤ v). rw (distance-forward n h t slot_t near, distance-forward n t v slot_v on, distance-forward n h v slot_v (omega arith))
    (less (v - h) (t - h + (v - t)) (omega arith) (omega arith)))
    (cases_lt v t))
    (cases_lt t h)
  where
    whole : (x y : ℕ) → x < n → y ≡ n + x → x ≡ y % n
    whole x y below same = sym (ap (λ (k : ℕ). k % n) same ∙ add-mod_left n x ∙ mod-eq_of_lt below)

    less : (x y : ℕ) → x < n → y ≡ x → x ≡ y % n
    less x y below same = sym (ap (λ (k : ℕ). k % n) same ∙ mod-eq_of_lt below)

pub none-offered : NoSlotIsOffered
none-offered ring has = (
  λ none. ⊎_elim
      (λ (far : ring.tail < ring.head). absurd
      (let around = distance-around ring.slots ring.head ring.tail has.head far in omega (arith, around, none, has.head)))
      (λ (near : ring.head ≤ ring.tail).
      let forward = distance-forward ring.slots ring.head ring.tail has.tail near in
      omega (arith, forward, none, near))
      (cases_lt ring.tail ring.head),
  λ same. distance-forward ring.slots ring.head ring.tail has.tail (omega (arith, same)) ∙ omega (arith, same),
)

pub one-taken : OneIsTaken
one-taken ring has apart =
    let step = distance-step ring.slots ring.head ring.tail has.head has.tail apart in (
      record { head = mod_below (ring.head + 1) ring.slots (omega (arith, has.head)); tail = has.tail },
      omega (arith, step),
    )

places-on : (n t d : ℕ) → t < n → d < n → ((t + d) % n + n - t) % n ≡ d
places-on n t d slot few = ⊎_elim
    (λ (within : t + d < n). rw (mod-eq_of_lt within, distance-forward n t (t + d) within (omega arith)) (omega arith))
    (λ (around : n ≤ t + d).
    let wrapped : (t + d) % n ≡ t + d - n = again (t + d) (t + d - n) (omega arith) (omega arith) in
    rw (wrapped, distance-around n t (t + d - n) slot (omega arith)) (omega arith))
    (cases_lt (t + d) n)
  where
    again : (x y : ℕ) → y < n → x ≡ n + y → x % n ≡ y
    again x y below same = ap (λ (k : ℕ). k % n) same ∙ add-mod_left n y ∙ mod-eq_of_lt below

pub tails-offer : TailsOfferSlots
tails-offer ring places has fits =
    let few : places < ring.slots = omega (arith, fits) in
    let slot : (ring.tail + places) % ring.slots < ring.slots = mod_below (ring.tail + places) ring.slots (omega (arith, fits)) in
    distance-joins ring.slots ring.head ring.tail ((ring.tail + places) % ring.slots) has.head has.tail slot
    ∙ ap (λ (k : ℕ). (offered_in ring + k) % ring.slots) (places-on ring.slots ring.tail places has.tail few)
    ∙ mod-eq_of_lt fits
