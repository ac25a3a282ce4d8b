-- A driver counts the slot after its oldest slot as its new oldest slot.
use Rattle.std.proofs.Common.{◌≡◌, ◌≢◌, ◌≤◌, ◌<◌, ◌+◌, ◌-◌, ◌%◌, ⊎_elim, ◌++◌, ◌∷◌, []}
use Rattle.std.proofs.Common.{inl, inr, true, ℕ, zero, suc, List}
use Rattle.std.proofs.Common.{length, map, refl, sym, ap, subst, ◌∙◌, arith}
use Rattle.std.specs.List.{All, AllPairs, take_while}
use Rattle.std.proofs.lemmas.Bool.{cases_eq}
use Rattle.std.proofs.lemmas.List.Sums.{take_while-cons}
use Rattle.std.proofs.lemmas.Nat.{mod_below}
use Rattle.std.proofs.Math.Nat.{add-mod_right, mod-eq_of_lt, mod_self, suc-mod}
use Rattle.dma_memory.specs.Areas.{AreApart, AreSeparate, Area, descriptor_area}
use Rattle.dma_memory.specs.HostMemory.{LiesIn}
use Rattle.descriptors.specs.declared.ring.Ring.{Ring}
use Rattle.descriptors.specs.Ring.{address_of, count_of, distance_of, next_of, offered_places, slots_from}
use Rattle.descriptors.specs.RingLaws.{next-below, next-inner, next-last}
use Rattle.adapter_model.specs.Slots.{buffered, done_slots, finished, slots_in_work, is_done, IsDealt, offered, outstanding}
use Rattle.adapter_model.specs.HostAreas.{areas, data_of, offered_buffers, ring_area, work_areas}
use Rattle.adapter_model.specs.HostFrames.{named}
use Rattle.adapter_model.specs.Conditions.{FitBuffers}
use Rattle.bus.specs.DriversSlots.{IsDriversSlot}
use Rattle.bus.specs.FreedSlots.{WrittenSlotsCanBeFreed}
use Rattle.adapter_model.specs.World.{receive_ring, transmit_ring, World}
use Rattle.bus.proofs.Areas.{separate-without}
use Rattle.bus.proofs.Lists.{all-head, all-right, all-tail, all-weaker, pairs-head, take_while-passes}
use Rattle.bus.proofs.Rings.{outstanding-apart}

-- The distance from a slot.

mod-before : (n m d : ℕ) → 0 < n → suc m % n ≡ suc d → m % n ≡ d
mod-before n m d some next =
    let below = mod_below m n some in
    let step : suc (m % n) % n ≡ suc d = sym (suc-mod m n) ∙ next in
    ⊎_elim
    (λ (last : suc (m % n) ≡ n).
    let none : suc (m % n) % n ≡ 0 = ap (λ (k : ℕ). k % n) last ∙ mod_self n in
    absurd (omega (arith, none, step)))
    (λ (inner : ¬ (suc (m % n) ≡ n)).
    let same : suc (m % n) % n ≡ suc (m % n) = mod-eq_of_lt (omega (arith, below, inner)) in
    omega (arith, same, step))
    (cases_eq (suc (m % n)) n)

way-shorter : (n from to d : ℕ) → from < n → (to + n - from) % n ≡ suc d → (to + n - (from + 1) % n) % n ≡ d
way-shorter n from to d below way =
    ⊎_elim
    (λ (last : from + 1 ≡ n).
    let moved : to + n - from ≡ suc to = omega (arith, last) in
    let around : suc to % n ≡ suc d = ap (λ (k : ℕ). k % n) (sym moved) ∙ way in
    let none : to + n - 0 ≡ to + n = omega arith in
    ap (λ (k : ℕ). (to + n - k) % n) (next-last n from last)
    ∙ ap (λ (k : ℕ). k % n) none
    ∙ add-mod_right to n
    ∙ mod-before n to d (omega (arith, below)) around)
    (λ (inner : ¬ (from + 1 ≡ n)).
    let moved : to + n - from ≡ suc (to + n - (from + 1)) = omega (arith, below, inner) in
    let on : suc (to + n - (from + 1)) % n ≡ suc d = ap (λ (k : ℕ). k % n) (sym moved) ∙ way in
    ap (λ (k : ℕ). (to + n - k) % n) (next-inner n from (omega (arith, below, inner)))
    ∙ mod-before n (to + n - (from + 1)) d (omega (arith, below)) on)
    (cases_eq (from + 1) n)

-- Lists with a first element.

list-some : (x : ℕ) (xs : List ℕ) → ¬ (x ∷ xs ≡ [])
list-some x xs same = let none : suc (length xs) ≡ 0 = ap length same in absurd (omega (arith, none))

outstanding-first : (ring : Ring) (oldest slot : ℕ) (later : List ℕ) → oldest < count_of ring → outstanding ring oldest ≡ slot ∷ later
    → outstanding ring oldest ≡ address_of ring oldest ∷ outstanding ring (next_of ring oldest)
unfolding offered_places
outstanding-first ring oldest slot later below some = by-way (distance_of ring oldest ring.tail) refl
  where
    by-way : (d : ℕ) → distance_of ring oldest ring.tail ≡ d
        → outstanding ring oldest ≡ address_of ring oldest ∷ outstanding ring (next_of ring oldest)
    by-way zero way =
        let none : outstanding ring oldest ≡ [] = ap (λ (k : ℕ). map (address_of ring) (slots_from (count_of ring) oldest k)) way in
        absurd (list-some slot later (sym some ∙ none))
    by-way (suc d) way =
        let shorter : distance_of ring (next_of ring oldest) ring.tail ≡ d = way-shorter (count_of ring) oldest ring.tail d below way in
        ap (λ (k : ℕ). map (address_of ring) (slots_from (count_of ring) oldest k)) way
        ∙ ap (λ (k : ℕ). address_of ring oldest ∷ map (address_of ring) (slots_from (count_of ring) (next_of ring oldest) k)) (sym shorter)

-- If the slot after the oldest slot, `slot`, is counted as the oldest, `slot` is the driver's, and the done slots are then `later`.
pub record Ahead (memory : List ℕ) (ring : Ring) (oldest : ℕ) (taken : List ℕ) (slot : ℕ) (later : List ℕ) : Type 0 where
  pub stands : slot ≡ address_of ring oldest
  pub first : outstanding ring oldest ≡ slot ∷ outstanding ring (next_of ring oldest)
  pub dealt : IsDealt memory ring (next_of ring oldest) taken
  pub behind : done_slots memory ring (next_of ring oldest) ≡ later
  pub own : IsDriversSlot ring (next_of ring oldest) oldest

first-same : (x y : ℕ) (xs ys : List ℕ) → x ∷ xs ≡ y ∷ ys → x ≡ y
first-same x y xs ys same = cc

others-same : (x y : ℕ) (xs ys : List ℕ) → x ∷ xs ≡ y ∷ ys → xs ≡ ys
others-same x y xs ys same = cc

pub dealt-ahead : (memory : List ℕ) (ring : Ring) (oldest : ℕ) (taken : List ℕ) (slot : ℕ) (later : List ℕ)
    → IsDealt memory ring oldest taken → done_slots memory ring oldest ≡ slot ∷ later → Ahead memory ring oldest taken slot later
dealt-ahead memory ring oldest taken slot later dealt done =
    let next = next_of ring oldest in
    let behind = taken ++ offered ring in
    let whole : outstanding ring oldest ≡ slot ∷ (later ++ behind) = dealt.classes ∙ ap (λ (slots : List ℕ). slots ++ behind) done in
    let below : oldest < count_of ring =
    ⊎_elim
    (λ (inside : oldest < count_of ring). inside)
    (λ (none : outstanding ring oldest ≡ []). absurd (list-some slot (later ++ behind) (sym whole ∙ none)))
    dealt.slot in
    let split : outstanding ring oldest ≡ address_of ring oldest
    ∷ outstanding ring next = outstanding-first ring oldest slot (later ++ behind) below whole in
    let stands : slot ≡ address_of ring oldest = first-same slot (address_of ring oldest) (later ++ behind) (outstanding ring next)
    (sym whole ∙ split) in
    let others : outstanding ring next
    ≡ later ++ behind = others-same (address_of ring oldest) slot (outstanding ring next) (later ++ behind) (sym split ∙ whole) in
    let first : outstanding ring oldest ≡ slot ∷ outstanding ring next = split ∙ ap (λ (d : ℕ). d ∷ outstanding ring next) (sym stands) in
    let passes : All (λ d. is_done memory d ≡ true) (slot ∷ later) =
    subst (λ (slots : List ℕ). All (λ d. is_done memory d ≡ true) slots) done
    (take_while-passes (is_done memory) (outstanding ring oldest)) in
    let here : is_done memory slot ≡ true = all-head (λ d. is_done memory d ≡ true) slot later passes in
    let front : done_slots memory ring oldest ≡ slot ∷ done_slots memory ring next =
    ap (take_while (is_done memory)) first ∙ take_while-cons (is_done memory) slot (outstanding ring next) ∙ rw here refl in
    let rest : done_slots memory ring next ≡ later = others-same slot slot (done_slots memory ring next) later (sym front ∙ done) in
    let pairs = pairs-head (λ a b. AreApart (descriptor_area a) (descriptor_area b)) slot (outstanding ring next)
    (subst (λ (slots : List ℕ). AllPairs (λ a b. AreApart (descriptor_area a) (descriptor_area b)) slots) first
    (outstanding-apart ring oldest dealt.slot)) in
    record {
      stands = stands;
      first = first;
      dealt = record {
        slot = inl (next-below (count_of ring) oldest below);
        classes = others ∙ ap (λ (slots : List ℕ). slots ++ behind) (sym rest);
        not_done = dealt.not_done;
      };
      behind = rest;
      own = record {
        below = below;
        apart =
            all-weaker (λ other. AreApart (descriptor_area slot) (descriptor_area other)) (λ other. other ≢ address_of ring oldest)
            (outstanding ring next)
            (λ other apart. other-place slot other (address_of ring oldest) stands apart)
            pairs;
      };
    }
  where
    other-place : (d other place : ℕ) → d ≡ place → AreApart (descriptor_area d) (descriptor_area other) → other ≢ place
    other-place d other place is (inl before) same = absurd (omega (arith, is, before, same))
    other-place d other place is (inr after) same = absurd (omega (arith, is, after, same))

-- The receive ring and the transmit ring.

-- the receive slot after the oldest
abbrev pub behind_oldest_receive : ℕ → World → ℕ
behind_oldest_receive oldest world = next_of (receive_ring world) oldest

-- With the next receive slot as the oldest one, all conditions of the law hold, except those on what the slots contain.
pub record Passed (o : ℕ) (a : World) (slot : ℕ) (later : List ℕ) : Type 0 where
  pub ahead : Ahead a.memory (receive_ring a) o (slots_in_work a) slot later
  pub separate : AreSeparate a.memory (areas (behind_oldest_receive o a) a)
  -- the bytes that the slot names
  pub lies : LiesIn a.memory (named a.memory slot).address (named a.memory slot).size
  pub fits : (size : ℕ) → FitBuffers size o a → FitBuffers size (behind_oldest_receive o a) a

pub passed : (o : ℕ) (a : World) (slot : ℕ) (later : List ℕ) → IsDealt a.memory (receive_ring a) o (slots_in_work a)
    → AreSeparate a.memory (areas o a) → finished o a ≡ slot ∷ later → Passed o a slot later
passed o a slot later dealt separate done =
    let ahead = dealt-ahead a.memory (receive_ring a) o (slots_in_work a) slot later dealt done in
    let front = ring_area (receive_ring a) ∷ ring_area (transmit_ring a) ∷ map (data_of a.memory) (offered (transmit_ring a)) in
    let rest = work_areas a.memory a.adapter.receiver.work ++ offered_buffers a in
    let Lies : Area → Type 0 = λ area. LiesIn a.memory area.address area.size in
    let all : AreSeparate a.memory (front ++ (named a.memory slot ∷ (map (named a.memory) later ++ rest))) =
    subst (λ (slots : List ℕ). AreSeparate a.memory (front ++ (map (named a.memory) slots ++ rest))) done separate in
    let fewer : AreSeparate a.memory (front ++ (map (named a.memory) later ++ rest)) = separate-without a.memory front (named a.memory slot)
    (map (named a.memory) later ++ rest) all in
    record {
      ahead = ahead;
      separate = subst (λ (slots : List ℕ). AreSeparate a.memory (front ++ (map (named a.memory) slots ++ rest)))
          (sym ahead.behind) fewer;
      lies =
          all-head Lies (named a.memory slot) (map (named a.memory) later ++ rest)
          (all-right Lies front (named a.memory slot ∷ (map (named a.memory) later ++ rest)) all.lie);
      fits = λ size fit.
          let Fits : ℕ → Type 0 = λ d. (named a.memory d).size ≤ size in
          record {
            large = fit.large;
            finished_fit = subst (λ (slots : List ℕ). All Fits slots) (sym ahead.behind)
                (all-tail Fits slot later (subst (λ (slots : List ℕ). All Fits slots) done fit.finished_fit));
            work_fits = fit.work_fits;
          };
    }

pub written_slots_can_be_freed : WrittenSlotsCanBeFreed
written_slots_can_be_freed o p a slot later sound done =
    let ahead = dealt-ahead a.memory (transmit_ring a) p (buffered a) slot later sound.transmit_slots done in
    record {
      stands = ahead.stands;
      sound = record {
        receive_slots = sound.receive_slots;
        transmit_slots = ahead.dealt;
        separate = sound.separate;
        reports = sound.reports;
        begun = sound.begun;
        pads = sound.pads;
      };
      behind = ahead.behind;
      first = ahead.first;
      own = ahead.own;
    }
