-- The outcome of a step that is no fault, by the counts of the adapter.
use Rattle.std.proofs.Common.{◌≡◌, ◌≢◌, ◌==◌, ◌&&◌, ◌||◌, ◌⊎◌, ◌-◌, [], ◌∷◌}
use Rattle.std.proofs.Common.{ℕ, suc, Bool, true, false, not, Option, Some, None, List, length}
use Rattle.std.proofs.Common.{if◌then◌else◌, inl}
use Rattle.std.proofs.Common.{inr, refl}
use Rattle.std.proofs.Common.{sym, ap, ◌∙◌, arith}
use Rattle.std.specs.Prelude.{is_some, nat_le}
use Rattle.std.proofs.lemmas.List.{length-map}
use Rattle.std.proofs.lemmas.Bool.Decides.{eqb_tells}
use Rattle.eeprom.specs.Eerd.{is_pending}
use Rattle.mdic_phy.specs.declared.mdic.Operation.{Operation}
use Rattle.mdic_phy.specs.declared.phy.Negotiation.{Negotiation}
use Rattle.mdic_phy.specs.declared.phy.Negotiation.TheVariants.{NotStarted, Running, Complete}
use Rattle.mdic_phy.specs.Mdic.{has_work}
use Rattle.mdic_phy.specs.Phy.{PhyState, is_running}
use Rattle.registers.specs.Bits.{HasBit, is_set}
use Rattle.registers.specs.Places.{rctl_en, tctl_en}
use Rattle.rx_engine.specs.Receiver.{oldest}
use Rattle.adapter.specs.Receiving.{DataAnswers, DoneAnswers, HasFrameAndDescriptor}
use Rattle.adapter.specs.State.{AdapterState}
use Rattle.adapter.specs.Steps.{ticked}
use Rattle.adapter.specs.Transmitting.{HasNothingToTake, TakeAnswers}
use Rattle.adapter.specs.Outcomes.{FrameOutcome}
use Rattle.adapter.specs.model_types.outcome.Outcome.TheVariants.{Done, Fault, Moved, Nothing, Part, Ticked, Took}
use Rattle.host_calls.specs.Counts.{bytes_left, counts_of, negotiation_ticks, phy_counts}
use Rattle.host_calls.specs.StepOutcomes.{has_idle_phy, has_nothing_to_move, has_nothing_to_take, left_of_oldest, moved_or_part, nothing_if}

idles : (test : Bool) (other : FrameOutcome) → test ≡ true → Nothing ≡ nothing_if test other
idles true other is = refl
idles false other is = absurd (cc)

acts : (test : Bool) (other : FrameOutcome) → test ≡ false → other ≡ nothing_if test other
acts false other is = refl
acts true other is = absurd (cc)

one : (n m k l : ℕ) → (n ≡ k) ⊎ (m ≡ l) → (n == k || m == l) ≡ true
one n m k l holds = elim (eqb_tells n k) [
  | inl same ↦ rw same.0 refl
  | inr other ↦ rw other.0 (elim (eqb_tells m l) [
    | inl same ↦ same.0
    | inr apart ↦ elim holds [ inl is ↦ absurd (other.1 is) | inr is ↦ absurd (apart.1 is) ]
  ])
]

none : (n m k l : ℕ) → n ≢ k → m ≢ l → (n == k || m == l) ≡ false
none n m k l more some = elim (eqb_tells n k) [
  | inl same ↦ absurd (more same.1)
  | inr other ↦ rw other.0 (elim (eqb_tells m l) [ inl same ↦ absurd (some same.1) | inr is ↦ is.0 ])
]

stands-runs : (stopped : Bool) → stopped ≡ true → stopped ≡ false → ⊥
stands-runs true stands runs = absurd (cc)
stands-runs false stands runs = absurd (cc)

bit-tells : (value place : ℕ) → (is_set value place ≡ true × HasBit value place) ⊎ (is_set value place ≡ false × (¬ (HasBit value place)))
bit-tells value place = eqb_tells _ _

idle-test : (a : AdapterState) → a.transmitter.stopped ≡ false → HasNothingToTake a → has_nothing_to_take (counts_of a).transmit ≡ true
idle-test a runs idle = elim (bit-tells a.transmit_control tctl_en) [
  | inr off ↦ ap (λ (b : Bool). not b || (length a.transmitter.buffer == 4 || a.transmit_ring.head == a.transmit_ring.tail)) off.0
  | inl on ↦ ap (λ (b : Bool). not b || (length a.transmitter.buffer == 4 || a.transmit_ring.head == a.transmit_ring.tail)) on.0
      ∙ full on.1 idle
]
  where
    full : HasBit a.transmit_control tctl_en → HasNothingToTake a
        → (length a.transmitter.buffer == 4 || a.transmit_ring.head == a.transmit_ring.tail) ≡ true
    full on (inl off) = absurd (off on)
    full on (inr (inl stopped)) = absurd (stands-runs a.transmitter.stopped stopped runs)
    full on (inr (inr (inl four))) = one _ _ 4 _ (inl four)
    full on (inr (inr (inr same))) = one _ _ 4 _ (inr same)

pub take-answer : (memory : List ℕ) (a : AdapterState) (answer : FrameOutcome) → a.transmitter.stopped ≡ false → answer ≢ Fault
    → TakeAnswers memory a answer → answer ≡ nothing_if (has_nothing_to_take (counts_of a).transmit) Took
take-answer memory a Nothing runs well answers = idles (has_nothing_to_take (counts_of a).transmit) Took (idle-test a runs answers)
take-answer memory a Took runs well answers =
    acts (has_nothing_to_take (counts_of a).transmit) Took (elim (bit-tells a.transmit_control tctl_en) [
      | inr off ↦ absurd (answers.0 (inl off.1))
      | inl on ↦ ap (λ (b : Bool). not b || (length a.transmitter.buffer == 4 || a.transmit_ring.head == a.transmit_ring.tail)) on.0
          ∙ none _ _ 4 _ (λ four. answers.0 (inr (inr (inl four)))) (λ same. answers.0 (inr (inr (inr same))))
    ])
take-answer memory a Fault runs well answers = absurd (well refl)
take-answer memory a _ runs well answers = absurd answers

-- Moving a piece

count-left : (moved : ℕ) (frames : List (List ℕ)) → length (bytes_left moved frames) ≡ length frames
count-left moved [] = refl
count-left moved (frame ∷ frames) = ap suc (length-map frames length)

first-left : (moved : ℕ) (frames : List (List ℕ)) → left_of_oldest (bytes_left moved frames) ≡ length (oldest frames) - moved
first-left moved [] = omega arith
first-left moved (frame ∷ frames) = refl

last-or-part : (moved size : ℕ) (frames : List (List ℕ)) (last : Bool) → nat_le (length (oldest frames) - moved) size ≡ last
    → nat_le (left_of_oldest (bytes_left moved frames)) size ≡ last
last-or-part moved size frames last is = ap (λ (n : ℕ). nat_le n size) (first-left moved frames) ∙ is

empty : (frames : List (List ℕ)) → length frames ≡ 0 → frames ≡ []
empty [] none = refl
empty (frame ∷ frames) none = absurd (omega (arith, none))

barred : {X : Type 0} (work : Option X) (frames : List (List ℕ)) (head tail : ℕ) → (work ≡ None → frames ≢ [] → head ≢ tail → ⊥)
    → (is_some work || (length frames == 0 || head == tail)) ≡ true
barred (Some x) frames head tail isnt = refl
barred None frames head tail isnt = elim (eqb_tells (length frames) 0) [
  | inl zero ↦ rw zero.0 refl
  | inr some ↦ rw some.0 (elim (eqb_tells head tail) [
    | inl same ↦ same.0
    | inr apart ↦ absurd (isnt refl (λ zero. some.1 (ap length zero)) apart.1)
  ])
]

free : {X : Type 0} (work : Option X) (frames : List (List ℕ)) (head tail : ℕ) → work ≡ None → frames ≢ [] → head ≢ tail
    → (is_some work || (length frames == 0 || head == tail)) ≡ false
free (Some x) frames head tail ready some apart = absurd (cc)
free None frames head tail ready some apart = none (length frames) head 0 tail (λ zero. some (empty frames zero)) apart

-- The test that RxData has nothing to move. `on` states whether the side is enabled, and `frames` is the number of
-- frames in the packet buffer.
abbrev barred-when : AdapterState → Bool → ℕ → Bool
barred-when a on frames = not on || (is_some a.receiver.work || (frames == 0 || a.receive_ring.head == a.receive_ring.tail))

to_move : (a : AdapterState)
    → has_nothing_to_move (counts_of a).receive ≡ barred-when a (is_set a.filter.rctl rctl_en) (length a.receiver.buffer)
to_move a = ap (barred-when a (is_set a.filter.rctl rctl_en)) (count-left a.receiver.moved a.receiver.buffer)

abbrev when : (a : AdapterState) → Bool → Bool
when a on = barred-when a on (length a.receiver.buffer)

has-to-move : (a : AdapterState) → HasFrameAndDescriptor a → has_nothing_to_move (counts_of a).receive ≡ false
has-to-move a has = to_move a ∙ elim (bit-tells a.filter.rctl rctl_en) [
  | inr off ↦ absurd (off.1 has.enabled)
  | inl on ↦ ap (when a) on.0 ∙ free a.receiver.work a.receiver.buffer _ _ has.ready.free has.ready.frames has.offered
]

nothing-to-move : (a : AdapterState) → a.receiver.stopped ≡ false → ¬ (HasFrameAndDescriptor a)
    → has_nothing_to_move (counts_of a).receive ≡ true
nothing-to-move a runs without = to_move a ∙ elim (bit-tells a.filter.rctl rctl_en) [
  | inr off ↦ ap (when a) off.0
  | inl on ↦ ap (when a) on.0 ∙ barred a.receiver.work a.receiver.buffer _ _ (λ ready some apart. without (record {
    enabled = on.1;
    ready = record { running = runs; free = ready; frames = some };
    offered = apart;
  }))
]

pub data-answer : (memory : List ℕ) (a : AdapterState) (answer : FrameOutcome) → a.receiver.stopped ≡ false → answer ≢ Fault
    → DataAnswers memory a answer → answer ≡ nothing_if (has_nothing_to_move (counts_of a).receive) (moved_or_part (counts_of a).receive)
data-answer memory a Nothing runs well answers =
    idles (has_nothing_to_move (counts_of a).receive) (moved_or_part (counts_of a).receive)
    (nothing-to-move a runs answers)
data-answer memory a Moved runs well answers =
    ap (λ (last : Bool). if last then Moved else Part) (sym (last-or-part a.receiver.moved _ a.receiver.buffer true answers.2))
    ∙ acts (has_nothing_to_move (counts_of a).receive) (moved_or_part (counts_of a).receive) (has-to-move a answers.0)
data-answer memory a Part runs well answers =
    ap (λ (last : Bool). if last then Moved else Part) (sym (last-or-part a.receiver.moved _ a.receiver.buffer false answers.2))
    ∙ acts (has_nothing_to_move (counts_of a).receive) (moved_or_part (counts_of a).receive) (has-to-move a answers.0)
data-answer memory a Fault runs well answers = absurd (well refl)
data-answer memory a _ runs well answers = absurd answers

pub done-answer : (a : AdapterState) (answer : FrameOutcome) → DoneAnswers a answer
    → answer ≡ nothing_if (not (counts_of a).receive.is_working) Done
done-answer a Nothing answers = idles (not (counts_of a).receive.is_working) Done (ap (λ o. not (is_some o)) answers)
done-answer a Done answers = acts (not (counts_of a).receive.is_working) Done (works a.receiver.work answers)
  where
    works : {X : Type 0} (work : Option X) → (work ≡ None → ⊥) → not (is_some work) ≡ false
    works None some = absurd (some refl)
    works (Some x) some = refl
done-answer a _ answers = absurd answers

-- Ticks of the EEPROM and the PHY

tick-answer : (works : Bool) → ticked works ≡ nothing_if (not works) Ticked
tick-answer true = refl
tick-answer false = refl

pub eeprom-answer : (a : AdapterState) (answer : FrameOutcome) → answer ≡ ticked (is_pending a.eerd)
    → answer ≡ nothing_if (not (counts_of a).is_reading) Ticked
eeprom-answer a answer is = is ∙ tick-answer (is_pending a.eerd)

idle-phy : (value : ℕ) (pending : Option Operation) (phy : PhyState)
    → not (has_work (record { value = value; pending = pending }) phy)
    ≡ has_idle_phy (phy_counts (record { value = value; pending = pending }) phy)
idle-phy value (Some operation) phy = by_case (is_running phy.negotiation) ∙ sym (and-false _)
  where
    by_case : (runs : Bool) → not (runs || true) ≡ false
    by_case true = refl
    by_case false = refl

    and-false : (b : Bool) → (b && false) ≡ false
    and-false true = refl
    and-false false = refl
idle-phy value None phy = by_case phy.negotiation
  where
    by_case : (negotiation : Negotiation) → not (is_running negotiation || false) ≡ ((negotiation_ticks negotiation == 0) && true)
    by_case NotStarted = refl
    by_case Complete = refl
    by_case (Running left) = elim (eqb_tells (negotiation_ticks (Running left)) 0) [
      | inl none ↦ absurd (omega (arith, none.1))
      | inr some ↦ sym (ap (λ (b : Bool). b && true) some.0)
    ]

pub phy-answer : (a : AdapterState) (answer : FrameOutcome) → answer ≡ ticked (has_work a.mdic a.phy)
    → answer ≡ nothing_if (has_idle_phy (counts_of a).phy) Ticked
phy-answer a answer is =
    is ∙ tick-answer (has_work a.mdic a.phy)
    ∙ ap (λ (idle : Bool). nothing_if idle Ticked) (idle-phy a.mdic.value a.mdic.pending a.phy)
