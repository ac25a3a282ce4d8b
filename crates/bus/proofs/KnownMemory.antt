-- Whatever happens between two accesses, a driver's rings have the same base and size, and spare memory remains spare.
use Rattle.std.proofs.Common.{◌≡◌, ℕ, List, sym, ap, subst}
use Rattle.std.specs.List.{All}
use Rattle.dma_memory.specs.Areas.{AreApart, Area, area_at}
use Rattle.descriptors.specs.declared.tx_desc.TxDesc.{TxDesc}
use Rattle.adapter_model.specs.Rings.{ring_of}
use Rattle.adapter_model.specs.declared.ring.RingRegisters.{RingRegisters}
use Rattle.rx_engine.specs.Descriptors.{named_address}
use Rattle.adapter_model.specs.HostAreas.{data_of, ring_area}
use Rattle.adapter_model.specs.Conditions.{Sound}
use Rattle.bus.specs.Law.{Happens}
use Rattle.bus.specs.Pasts.{Past}
use Rattle.bus.specs.SpareMemory.{AreasStayApart, IsSpare}
use Rattle.adapter_model.specs.World.{receive_ring, transmit_ring, World}
use Rattle.bus.proofs.DriversSlots.{drivers_side_stays}
use Rattle.bus.proofs.Rings.{each-outstanding}
use Rattle.bus.proofs.SpareMemory.{spare-apart, spare-foreign}

-- Rings that are the same except for their heads.

same_ring_area : (a b : RingRegisters) → b ≡ record a { head = b.head } → ring_area (ring_of b) ≡ ring_area (ring_of a)
same_ring_area a b same = ap (λ (registers : RingRegisters). ring_area (ring_of registers)) same

-- Spare memory.

spare-stays : (size o p : ℕ) (a b : World) (past : Past) (area : Area) → Sound o p a → Happens a b past → IsSpare size o p a area
    → IsSpare size o p b area
spare-stays size o p a b past area sound happens spare =
    let Away : Area → Type 0 = λ other. AreApart other area in
    let steady = happens.steady in
    let own = drivers_side_stays o p a b past sound happens in
    let addresses = each-outstanding (receive_ring a) o (λ d. named_address b.memory d
    ≡ named_address a.memory d) sound.receive_slots.slot own.addresses in
    let sources =
    each-outstanding (transmit_ring a) p (λ d. data_of b.memory d ≡ data_of a.memory d) sound.transmit_slots.slot
    (λ slot below. ap (λ (desc : TxDesc). let place : Area = record { address = desc.address; size = desc.length } in place)
    (own.requests slot below).fields) in
    record {
      receive_slots = subst Away (sym (same_ring_area a.adapter.receive_ring b.adapter.receive_ring steady.receive_ring.others))
          spare.receive_slots;
      transmit_slots = subst Away (sym (same_ring_area a.adapter.transmit_ring b.adapter.transmit_ring steady.transmit_ring.others))
          spare.transmit_slots;
      buffers =
          subst (λ (slots : List ℕ). All (λ d. AreApart (area_at (named_address b.memory d) size) area) slots)
          (sym own.outstanding_same.received)
          (λ k d below. subst (λ (address : ℕ). AreApart (area_at address size) area) (sym (addresses k d below))
          (spare.buffers k d below));
      sources =
          subst (λ (slots : List ℕ). All (λ d. AreApart (data_of b.memory d) area) slots) (sym own.outstanding_same.sent)
          (λ k d below. subst Away (sym (sources k d below)) (spare.sources k d below));
    }

pub areas_stay_apart : AreasStayApart
areas_stay_apart size o p a b past area sound fit spare happens =
    let between = happens.between o p sound in
    let fit_b = between.fits size fit in
    let spare_b = spare-stays size o p a b past area sound happens spare in
    record {
      fit = fit_b;
      spare = spare_b;
      apart = spare-apart size o p b area between.sound fit_b spare_b;
      foreign = spare-foreign size o p b area between.sound fit_b spare_b;
    }
