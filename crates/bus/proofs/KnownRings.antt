-- What a driver knows of its rings still holds, and a write of RDT or TDT changes only this register.
use Rattle.std.proofs.Common.{◌≡◌, ◌<◌, ⊎_elim, ℕ, Option, sym, ap, subst, ◌∙◌, arith, bit_and}
use Rattle.std.proofs.lemmas.Nat.{and_mask}
use Rattle.descriptors.specs.Ring.{HasValidIndices, count_of}
use Rattle.adapter_model.specs.declared.register.Register.{Register}
use Rattle.adapter_model.specs.declared.register.Register.TheVariants.{Receive, Transmit}
use Rattle.adapter_model.specs.declared.register.RingRegister.TheVariants.{Tail}
use Rattle.adapter_model.specs.declared.ring.RingRegisters.{RingRegisters}
use Rattle.adapter_model.specs.KnownRing.{KnowsRing}
use Rattle.adapter_model.specs.Registers.{left_by_write}
use Rattle.adapter_model.specs.Rings.{ring_of}
use Rattle.adapter_model.specs.TableLaws.{register_at-there}
use Rattle.adapter_model.specs.World.{receive_ring, transmit_ring, World}
use Rattle.bus.specs.Law.{OnlyHeadMoves}
use Rattle.bus.specs.KnownRings.{KnownRingStays, ReceiveTailMoves, TransmitTailMoves}

head-slot : (a b : RingRegisters) → OnlyHeadMoves a b → a.head < count_of (ring_of a) → b.head < count_of (ring_of a)
head-slot a b moves below =
    let count : count_of (ring_of b) ≡ count_of (ring_of a) =
    ap (λ (registers : RingRegisters). count_of (ring_of registers)) moves.others in
    ⊎_elim
    (λ (still : b.head ≡ a.head). subst (λ (head : ℕ). head < count_of (ring_of a)) (sym still) below)
    (λ (slot : HasValidIndices (ring_of b)). subst (λ (n : ℕ). b.head < n) count slot.head)
    moves.head

pub knows-carried : (a b : RingRegisters) (base count tail : ℕ) → OnlyHeadMoves a b
    → KnowsRing (ring_of a) base count tail → KnowsRing (ring_of b) base count tail
knows-carried a b base count tail moves knows = record {
  begins = ap (λ (registers : RingRegisters). (ring_of registers).base) moves.others ∙ knows.begins;
  slots = ap (λ (registers : RingRegisters). count_of (ring_of registers)) moves.others ∙ knows.slots;
  last = ap (λ (registers : RingRegisters). registers.tail) moves.others ∙ knows.last;
  head_slot = subst (λ (n : ℕ). b.head < n) knows.slots
      (head-slot a b moves (subst (λ (n : ℕ). a.head < n) (sym knows.slots) knows.head_slot));
}

pub known_receive_ring_stays : KnownRingStays receive_ring
known_receive_ring_stays a b past base count tail steady knows =
    knows-carried a.adapter.receive_ring b.adapter.receive_ring base count tail steady.receive_ring knows

pub known_transmit_ring_stays : KnownRingStays transmit_ring
known_transmit_ring_stays a b past base count tail steady knows =
    knows-carried a.adapter.transmit_ring b.adapter.transmit_ring base count tail steady.transmit_ring knows

-- Writes of RDT and of TDT.

index-kept : (value : ℕ) → value < 65536 → bit_and value 65535 ≡ value
index-kept value below = and_mask value 16 ∙ omega (arith, below)

-- RDT
pub receive_tail-written : ReceiveTailMoves
receive_tail-written value w below =
    ap (λ (register : Option Register). let after : World = record w { adapter = left_by_write register value w.adapter } in after)
    (register_at-there (Receive Tail) tt)
    ∙ ap (λ (number : ℕ). let after : World = record w
    { adapter = record w.adapter { receive_ring = record w.adapter.receive_ring { tail = number } } } in after) (index-kept value below)

-- TDT
pub transmit_tail-written : TransmitTailMoves
transmit_tail-written value w below =
    ap (λ (register : Option Register). let after : World = record w { adapter = left_by_write register value w.adapter } in after)
    (register_at-there (Transmit Tail) tt)
    ∙ ap (λ (number : ℕ). let after : World = record w
    { adapter = record w.adapter { transmit_ring = record w.adapter.transmit_ring { tail = number } } } in after)
    (index-kept value below)
