-- The slots of a ring from the driver's oldest on, and how the engines' steps change which of these slots are done, taken and offered.
use Rattle.std.proofs.Common.{◌≡◌, ⊎_elim, ◌≤◌, ◌<◌, ◌+◌, ◌-◌, ◌*◌, ◌%◌, ◌⊎◌, inl, inr, ◌++◌, ◌∷◌, [], true, false, ℕ, zero, suc, List, map}
use Rattle.std.proofs.Common.{sym, ap, subst, ◌∙◌, append_assoc, arith}
use Rattle.std.specs.List.{All, AllPairs, take_while}
use Rattle.std.proofs.lemmas.Bool.{cases_eq}
use Rattle.std.proofs.lemmas.Nat.{mod_below}
use Rattle.std.proofs.lemmas.List.Elements.{All-cons, All-append, All-map}
use Rattle.std.proofs.lemmas.List.Kept.{AllPairs-cons}
use Rattle.dma_memory.specs.Areas.{AreApart, IsInside, descriptor_area}
use Rattle.dma_memory.specs.AreaLaws.{apart-sym}
use Rattle.descriptors.specs.declared.ring.Ring.{Ring}
use Rattle.descriptors.specs.Ring.{HasValidIndices, address_of, count_of, distance_of, next_of, offered_places, slots_from}
use Rattle.descriptors.specs.RingLaws.{distance-around, distance-forward, distance-step, next-below, next-inner, next-last, places-head}
use Rattle.adapter_model.specs.HostAreas.{ring_area}
use Rattle.adapter_model.specs.Slots.{done_slots, is_done, IsDealt, offered, outstanding}
use Rattle.bus.proofs.Lists.{all-left, all-none, all-right, all-tail, pairs-before, pairs-behind, pairs-mapped, pairs-none}
use Rattle.bus.proofs.Lists.{take_while-passes, take_while-same, take_while-split}

-- Slots by index.

pub slots-below : (n i k : ℕ) → i < n → All (λ slot. slot < n) (slots_from n i k)
slots-below n i zero below = all-none (λ slot. slot < n)
slots-below n i (suc k) below = All-cons (λ slot. slot < n) i (slots_from n ((i + 1) % n) k) below
    (slots-below n ((i + 1) % n) k (next-below n i below))

pub slots-other : (n i k x : ℕ) → i < n → x < n → k ≤ (x + n - i) % n → All (λ slot. ¬ (slot ≡ x)) (slots_from n i k)
slots-other n i zero x below within far = all-none (λ slot. ¬ (slot ≡ x))
slots-other n i (suc k) x below within far =
    let none : i ≡ x → (x + n - i) % n ≡ 0 = λ same. distance-forward n i x within (omega (arith, same)) ∙ omega (arith, same) in
    let differ : ¬ (i ≡ x) = λ same. let there = none same in absurd (omega (arith, there, far)) in
    let step = distance-step n i x below within differ in
    All-cons (λ slot. ¬ (slot ≡ x)) i (slots_from n ((i + 1) % n) k) differ
    (slots-other n ((i + 1) % n) k x (next-below n i below) within (omega (arith, step, far)))

pub distance-whole : (n i : ℕ) → i < n → (i + n - (i + 1) % n) % n ≡ n - 1
distance-whole n i below =
    ⊎_elim
    (λ (last : i + 1 ≡ n). rw (next-last n i last) (distance-forward n 0 i below (omega arith) ∙ omega (arith, last)))
    (λ (inner : ¬ (i + 1 ≡ n)).
    let same = next-inner n i (omega (arith, inner)) in
    rw same (distance-around n (i + 1) i (omega (arith, inner)) (omega arith) ∙ omega arith))
    (cases_eq (i + 1) n)

pub slots-distinct : (n i k : ℕ) → i < n → k ≤ n → AllPairs (λ a b. ¬ (b ≡ a)) (slots_from n i k)
slots-distinct n i zero below fits = pairs-none (λ a b. ¬ (b ≡ a))
slots-distinct n i (suc k) below fits =
    let whole = distance-whole n i below in
    AllPairs-cons (λ a b. ¬ (b ≡ a)) i (slots_from n ((i + 1) % n) k)
    (slots-other n ((i + 1) % n) k i (next-below n i below) below (omega (arith, whole, fits)))
    (slots-distinct n ((i + 1) % n) k (next-below n i below) (omega (arith, fits)))

-- Slots by address.

pub each-outstanding : (ring : Ring) (oldest : ℕ) (P : ℕ → Type 0) → (oldest < count_of ring) ⊎ (outstanding ring oldest ≡ [])
    → ((slot : ℕ) → slot < count_of ring → P (address_of ring slot)) → All P (outstanding ring oldest)
unfolding offered_places
each-outstanding ring oldest P (inr none) fact = rw none (all-none P)
each-outstanding ring oldest P (inl below) fact =
    let n = count_of ring in
    let k = distance_of ring oldest ring.tail in
    All-map P (address_of ring) (slots_from n oldest k) (λ i d inside. fact _ (slots-below n oldest k below i d inside))

pub slot-inside : (base n slot size : ℕ) → slot < n → size ≤ 16
    → IsInside (record { address = base + 16 * slot; size = size }) (record { address = base; size = 16 * n })
slot-inside base n slot size below fits = record { from = omega arith; to = omega (arith, below, fits) }

pub outstanding-inside : (ring : Ring) (oldest : ℕ) → (oldest < count_of ring) ⊎ (outstanding ring oldest ≡ [])
    → All (λ descriptor. IsInside (descriptor_area descriptor) (ring_area ring)) (outstanding ring oldest)
outstanding-inside ring oldest first =
    each-outstanding ring oldest (λ descriptor. IsInside (descriptor_area descriptor) (ring_area ring)) first
    (λ slot below. slot-inside ring.base (count_of ring) slot 16 below (omega arith))

pub far-apart : (base a b : ℕ) → ¬ (b ≡ a)
    → AreApart (record { address = base + 16 * a; size = 16 }) (record { address = base + 16 * b; size = 16 })
far-apart base a b differ = grind arith

pub outstanding-apart : (ring : Ring) (oldest : ℕ) → (oldest < count_of ring) ⊎ (outstanding ring oldest ≡ [])
    → AllPairs (λ a b. AreApart (descriptor_area a) (descriptor_area b)) (outstanding ring oldest)
unfolding offered_places
outstanding-apart ring oldest (inr none) = rw none (pairs-none (λ a b. AreApart (descriptor_area a) (descriptor_area b)))
outstanding-apart ring oldest (inl below) =
    let n = count_of ring in
    let k = distance_of ring oldest ring.tail in
    let short : k < n = mod_below (ring.tail + n - oldest) n (omega (arith, below)) in
    pairs-mapped (λ a b. AreApart (descriptor_area a) (descriptor_area b)) (address_of ring) (slots_from n oldest k)
    (λ i j d before inside. far-apart ring.base _ _ (slots-distinct n oldest k below (omega (arith, short)) i j d before inside))

-- Done, taken and offered slots.

pub dealt-right : (memory : List ℕ) (ring : Ring) (oldest : ℕ) (taken : List ℕ) (P : ℕ → Type 0) → IsDealt memory ring oldest taken
    → All P (outstanding ring oldest) → All P (taken ++ offered ring)
dealt-right memory ring oldest taken P dealt all =
    all-right P (done_slots memory ring oldest) (taken ++ offered ring) (subst (λ (slots : List ℕ). All P slots) dealt.classes all)

pub dealt-left : (memory : List ℕ) (ring : Ring) (oldest : ℕ) (taken : List ℕ) (P : ℕ → Type 0) → IsDealt memory ring oldest taken
    → All P (outstanding ring oldest) → All P (done_slots memory ring oldest)
dealt-left memory ring oldest taken P dealt all =
    all-left P (done_slots memory ring oldest) (taken ++ offered ring) (subst (λ (slots : List ℕ). All P slots) dealt.classes all)

pub done-same : (memory memory' : List ℕ) (ring : Ring) (oldest : ℕ)
    → All (λ d. is_done memory' d ≡ is_done memory d) (outstanding ring oldest)
    → done_slots memory' ring oldest ≡ done_slots memory ring oldest
done-same memory memory' ring oldest same = take_while-same (is_done memory) (is_done memory') (outstanding ring oldest) same

pub dealt-same : (memory memory' : List ℕ) (ring : Ring) (oldest : ℕ) (taken : List ℕ)
    → All (λ d. is_done memory' d ≡ is_done memory d) (outstanding ring oldest) → IsDealt memory ring oldest taken
    → IsDealt memory' ring oldest taken
dealt-same memory memory' ring oldest taken same dealt =
    let rest = dealt-right memory ring oldest taken (λ d. is_done memory' d ≡ is_done memory d) dealt same in
    record {
      slot = dealt.slot;
      classes = dealt.classes ∙ ap (λ (slots : List ℕ). slots ++ (taken ++ offered ring)) (sym (done-same memory memory' ring oldest same));
      not_done = λ k d below. rest k d below ∙ dealt.not_done k d below;
    }

pub offered-head : (ring : Ring) → HasValidIndices ring → ¬ (ring.head ≡ ring.tail)
    → offered ring ≡ address_of ring ring.head ∷ offered (record ring { head = next_of ring ring.head })
offered-head ring sound apart = ap (map (address_of ring)) (places-head ring sound apart)

pub dealt-moved : (memory : List ℕ) (ring : Ring) (oldest : ℕ) (taken : List ℕ) → HasValidIndices ring → ¬ (ring.head ≡ ring.tail)
    → IsDealt memory ring oldest taken
    → IsDealt memory (record ring { head = next_of ring ring.head }) oldest (taken ++ address_of ring ring.head ∷ [])
dealt-moved memory ring oldest taken sound apart dealt =
    let moved : Ring = record ring { head = next_of ring ring.head } in
    let head = address_of ring ring.head in
    let same : taken ++ offered ring ≡ (taken ++ head ∷ []) ++ offered moved =
    ap (λ (slots : List ℕ). taken ++ slots) (offered-head ring sound apart) ∙ sym (append_assoc taken (head ∷ []) (offered moved)) in
    record {
      slot = dealt.slot;
      classes = dealt.classes ∙ ap (λ (slots : List ℕ). done_slots memory ring oldest ++ slots) same;
      not_done = subst (λ (slots : List ℕ). All (λ d. is_done memory d ≡ false) slots) same dealt.not_done;
    }

-- The first of the taken slots is now done, and the other slots are dealt as before.
pub record Reported (memory memory' : List ℕ) (ring : Ring) (oldest descriptor : ℕ) (taken : List ℕ) : Type 0 where
  pub dealt : IsDealt memory' ring oldest taken
  pub grown : done_slots memory' ring oldest ≡ done_slots memory ring oldest ++ descriptor ∷ []

pub dealt-others : (memory : List ℕ) (ring : Ring) (oldest descriptor : ℕ) (taken : List ℕ)
    → IsDealt memory ring oldest (descriptor ∷ taken)
    → All (λ other. AreApart (descriptor_area descriptor) (descriptor_area other)) (done_slots memory ring oldest)
    × All (λ other. AreApart (descriptor_area descriptor) (descriptor_area other)) (taken ++ offered ring)
dealt-others memory ring oldest descriptor taken dealt =
    let front = done_slots memory ring oldest in
    let behind = taken ++ offered ring in
    let R : ℕ → ℕ → Type 0 = λ a b. AreApart (descriptor_area a) (descriptor_area b) in
    let pairs : AllPairs R (front ++ descriptor ∷ behind) = subst (λ (slots : List ℕ). AllPairs R slots) dealt.classes
    (outstanding-apart ring oldest dealt.slot) in
    let before = pairs-before R front descriptor behind pairs in
    ((λ k d below. apart-sym _ _ (before k d below)), pairs-behind R front descriptor behind pairs)

pub dealt-reported : (memory memory' : List ℕ) (ring : Ring) (oldest descriptor : ℕ) (taken : List ℕ)
    → IsDealt memory ring oldest (descriptor ∷ taken)
    → ((other : ℕ) → AreApart (descriptor_area descriptor) (descriptor_area other) → is_done memory' other ≡ is_done memory other)
    → is_done memory' descriptor ≡ true → Reported memory memory' ring oldest descriptor taken
dealt-reported memory memory' ring oldest descriptor taken dealt others done =
    let front = done_slots memory ring oldest in
    let behind = taken ++ offered ring in
    let apart = dealt-others memory ring oldest descriptor taken dealt in
    let passes = take_while-passes (is_done memory) (outstanding ring oldest) in
    let front_done : All (λ d. is_done memory' d ≡ true) front = λ k d below. others _ (apart.0 k d below) ∙ passes k d below in
    let all_done = All-append (λ d. is_done memory' d ≡ true) front (descriptor ∷ []) front_done
    (All-cons (λ d. is_done memory' d ≡ true) descriptor [] done (all-none (λ d. is_done memory' d ≡ true))) in
    let open_before = all-tail (λ d. is_done memory d ≡ false) descriptor behind dealt.not_done in
    let open_after : All (λ d. is_done memory' d ≡ false) behind = λ k d below. others _ (apart.1 k d below) ∙ open_before k d below in
    let whole : outstanding ring oldest ≡ (front ++ descriptor ∷ []) ++ behind = dealt.classes
    ∙ sym (append_assoc front (descriptor ∷ []) behind) in
    let grown : done_slots memory' ring oldest ≡ front ++ descriptor ∷ [] =
    ap (take_while (is_done memory')) whole ∙ take_while-split (is_done memory') (front ++ descriptor ∷ []) behind all_done open_after in
    record {
      dealt = record {
        slot = dealt.slot;
        classes = whole ∙ ap (λ (slots : List ℕ). slots ++ behind) (sym grown);
        not_done = open_after;
      };
      grown = grown;
    }
