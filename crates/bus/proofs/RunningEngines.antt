-- Engines that can run: no fault stops them, and they can still run if memory is written.
use Rattle.std.proofs.Common.{◌≡◌, ◌≢◌, ◌≤◌, inr, [], Bool, true, false, cond, ℕ, List, length, length-take, drop, map}
use Rattle.std.proofs.Common.{sym, ap, subst, arith, ◌∷◌}
use Rattle.std.specs.List.{All}
use Rattle.std.proofs.lemmas.Bool.{eq-eqb}
use Rattle.dma_memory.specs.Areas.{Area, IsInside, descriptor_area}
use Rattle.dma_memory.specs.AreaLaws.{lies-inside}
use Rattle.dma_memory.specs.HostMemory.{LiesIn}
use Rattle.descriptors.specs.declared.tx_desc.TxDesc.{TxDesc}
use Rattle.descriptors.specs.Ring.{HasValidIndices, address_of}
use Rattle.descriptors.specs.TxDesc.{tx_desc_of}
use Rattle.rx_engine.specs.Moving.{buffer_bytes, next_piece}
use Rattle.rx_engine.specs.Receiver.{Receiver, oldest}
use Rattle.tx_engine.specs.Fetching.{IsTransmittable}
use Rattle.adapter_model.specs.Receiving.{CanMovePiece, HasFrameAndDescriptor, piece_size}
use Rattle.adapter_model.specs.Steps.{Answers, ticked}
use Rattle.adapter_model.specs.Transmitting.{CanTake, HasNothingToTake}
use Rattle.adapter_model.specs.declared.step.StepKind.{StepKind}
use Rattle.adapter_model.specs.declared.step.StepKind.TheVariants.{TxTake, TxPut, RxData, RxDone, EepromTick, PhyTick}
use Rattle.adapter_model.specs.Outcomes.{FrameOutcome}
use Rattle.adapter_model.specs.declared.outcome.Outcome.TheVariants.{Fault}
use Rattle.bus.specs.Faults.{FaultsNeverCome}
use Rattle.adapter_model.specs.HostAreas.{buffer_of, receives, ring_area}
use Rattle.adapter_model.specs.Slots.{buffered, slots_in_work, offered, IsDealt}
use Rattle.adapter_model.specs.Conditions.{Sound}
use Rattle.adapter_model.specs.Running.{CanRun, CanTransmit}
use Rattle.adapter_model.specs.World.{receive_ring, transmit_ring, World}
use Rattle.bus.proofs.EachArea.{of-areas}
use Rattle.bus.proofs.WrittenAreas.{IsSame}
use Rattle.bus.proofs.Lists.{all-head, all-right}
use Rattle.bus.proofs.Rings.{dealt-right, offered-head, outstanding-inside}
use Rattle.registers.specs.Bits.{HasBit}
use Rattle.registers.specs.Places.{rctl_bsex}
use Rattle.descriptors.specs.declared.ring.Ring.{Ring}

-- No step of an engine that can run is a fault.

-- the area is inside memory
abbrev pub Lies : List ℕ → Area → Type 0
Lies memory area = LiesIn memory area.address area.size

-- The descriptor of the first offered slot is inside the ring.
head-inside : (memory : List ℕ) (ring : Ring) (oldest head : ℕ) (rest taken : List ℕ) → IsDealt memory ring oldest taken
    → offered ring ≡ head ∷ rest → IsInside (descriptor_area head) (ring_area ring)
head-inside memory ring oldest head rest taken slots first =
    let Within : ℕ → Type 0 = λ d. IsInside (descriptor_area d) (ring_area ring) in
    let within = all-right Within taken (offered ring)
    (dealt-right memory ring oldest taken Within slots (outstanding-inside ring oldest slots.slot)) in
    all-head Within head rest (subst (λ (list : List ℕ). All Within list) first within)

pub can_take : (o p : ℕ) (a : World) → Sound o p a → CanRun a → ¬ (HasNothingToTake a.adapter) → CanTake a.memory a.adapter
can_take o p a sound can not_idle =
    let ring = transmit_ring a in
    let t = ring_area ring in
    let differ : ring.head ≢ ring.tail = λ same. not_idle (inr (inr (inr same))) in
    let in_ring = can.transmit_indices differ in
    let first = offered-head ring in_ring differ in
    let head = address_of ring ring.head in
    let inside = head-inside a.memory ring p head _ (buffered a) sound.transmit_slots first in
    let lie = of-areas (Lies a.memory) o a sound.separate.lie in
    record {
      sound = in_ring;
      lies = lies-inside a.memory (descriptor_area head) t inside lie.sent;
      transmittable = all-head (CanTransmit a.memory) head _
          (subst (λ (list : List ℕ). All (CanTransmit a.memory) list) first can.transmittable);
    }

pub piece-fits : (control : ℕ) (engine : Receiver) → length (next_piece control engine) ≤ buffer_bytes control
piece-fits control engine = omega (arith, length-take (buffer_bytes control) (drop engine.moved (oldest engine.buffer)))

pub can_move : (o p : ℕ) (a : World) → Sound o p a → CanRun a → HasFrameAndDescriptor a.adapter → CanMovePiece a.memory a.adapter
can_move o p a sound can has =
    let ring = receive_ring a in
    let r = ring_area ring in
    let in_ring = can.receive_indices has.offered in
    let first = offered-head ring in_ring has.offered in
    let head = address_of ring ring.head in
    let buffer = buffer_of a head in
    let inside = head-inside a.memory ring o head _ (slots_in_work a) sound.receive_slots first in
    let lie = of-areas (Lies a.memory) o a sound.separate.lie in
    let enabled : receives a ≡ true = eq-eqb _ _ has.enabled in
    let on : All (Lies a.memory) (map (buffer_of a) (offered ring)) = subst
    (λ (set : Bool). All (Lies a.memory) (cond set (map (buffer_of a) (offered ring)) [])) enabled lie.buffers in
    let place : LiesIn a.memory buffer.address buffer.size = all-head (Lies a.memory) buffer _
    (subst (λ (list : List ℕ). All (Lies a.memory) (map (buffer_of a) list)) first on) in
    let short : piece_size a.adapter ≤ buffer.size = piece-fits a.adapter.filter.rctl a.adapter.receiver in
    record {
      indices = in_ring;
      descriptor = lies-inside a.memory (descriptor_area head) r inside lie.received;
      place = omega (arith, place, short);
      not_extended = can.not_extended;
    }

tick-no_fault : (works : Bool) → Fault ≢ ticked works
tick-no_fault true same = absurd (cc)
tick-no_fault false same = absurd (cc)

no_fault : (o p : ℕ) (a : World) (kind : StepKind) (wire_free : Bool) → Sound o p a → CanRun a
    → ¬ (Answers kind wire_free a.memory a.adapter Fault)
no_fault o p a TxTake wire_free sound can answers = answers.1 (can_take o p a sound can answers.0)
no_fault o p a TxPut wire_free sound can answers = answers
no_fault o p a RxData wire_free sound can answers = answers.1 (can_move o p a sound can answers.0)
no_fault o p a RxDone wire_free sound can answers = answers
no_fault o p a EepromTick wire_free sound can answers = tick-no_fault _ answers
no_fault o p a PhyTick wire_free sound can answers = tick-no_fault _ answers

pub faults_never_come : FaultsNeverCome
faults_never_come o p a kind wire_free answer sound can answers same =
    no_fault o p a kind wire_free sound can (subst (λ (given : FrameOutcome). Answers kind wire_free a.memory a.adapter given) same answers)

-- Descriptors that could be transmitted still can be transmitted if their bytes don't change

pub transmittable-kept : (memory memory' : List ℕ) (slots : List ℕ) → length memory' ≡ length memory → All (IsSame memory memory') slots
    → All (CanTransmit memory) slots → All (CanTransmit memory') slots
transmittable-kept memory memory' slots size same can = λ k d below.
    let old = can k d below in
    let there : IsTransmittable memory' _ = record
    { ends = old.ends; legacy = old.legacy; least = old.least; most = old.most; lies = omega (arith, size, old.lies) } in
    subst (λ (desc : TxDesc). IsTransmittable memory' desc) (sym (ap tx_desc_of (same k d below))) there

-- The world b, with the ring registers and the stopped flags of the world a, except RDH.
abbrev with_engines_of : World → World → World
with_engines_of a b = record b {
  adapter = record b.adapter {
    receive_ring = record a.adapter.receive_ring { head = b.adapter.receive_ring.head };
    transmit_ring = a.adapter.transmit_ring;
    receiver = record b.adapter.receiver { stopped = a.adapter.receiver.stopped };
    transmitter = record b.adapter.transmitter { stopped = a.adapter.transmitter.stopped };
  };
}

-- Engines that can run still can run after memory was written and RDH moved.
pub still_run : (a b : World)
    → (b.adapter.receive_ring.head ≢ a.adapter.receive_ring.tail → HasValidIndices (receive_ring (with_engines_of a b)))
    → ¬ (HasBit b.adapter.filter.rctl rctl_bsex) → All (CanTransmit b.memory) (offered (transmit_ring a)) → CanRun a
    → CanRun (with_engines_of a b)
still_run a b indices not_extended transmittable can = record {
  receiver_runs = can.receiver_runs;
  transmitter_runs = can.transmitter_runs;
  receive_indices = indices;
  transmit_indices = can.transmit_indices;
  not_extended = not_extended;
  transmittable = transmittable;
}
