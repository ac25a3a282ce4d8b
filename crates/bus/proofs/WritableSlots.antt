-- The driver's slots can be written, and the slots from the tail on are the driver's.
use Rattle.std.proofs.Common.{◌≡◌, ◌≢◌, ◌*◌, ◌+◌, ℕ, arith}
use Rattle.std.proofs.lemmas.List.Elements.{All-map}
use Rattle.dma_memory.specs.Areas.{descriptor_area}
use Rattle.dma_memory.specs.AreaLaws.{apart-inside, apart-sym, inside-apart, lies-inside}
use Rattle.dma_memory.specs.HostMemory.{LiesIn}
use Rattle.descriptors.specs.Ring.{address_of, count_of, distance_of, offered_places, slots_from}
use Rattle.adapter_model.specs.HostAreas.{ring_area}
use Rattle.adapter_model.specs.World.{receive_ring, transmit_ring}
use Rattle.bus.specs.WritableSlots.{DriversReceiveSlotsCanBeWritten, DriversTransmitSlotsCanBeWritten, SlotsFromTailBelongToDriver}
use Rattle.bus.specs.WritableSlots.{TailSlotsBelongToDriver}
use Rattle.bus.proofs.EachArea.{of-areas}
use Rattle.bus.proofs.DriversSlots.{foreign-receive_slot, foreign-transmit_slot, own-apart, parts-of}
use Rattle.bus.proofs.Rings.{outstanding-inside, slot-inside, slots-other}

pub drivers_receive_slots_can_be_written : DriversReceiveSlotsCanBeWritten
drivers_receive_slots_can_be_written o p slot a sound own =
    let ring = receive_ring a in
    let parts = parts-of o p a sound in
    let r = ring_area ring in
    let t = ring_area (transmit_ring a) in
    let area = descriptor_area (address_of ring slot) in
    let inside = slot-inside ring.base (count_of ring) slot 16 own.below (omega arith) in
    let lie = of-areas (λ place. LiesIn a.memory place.address place.size) o a sound.separate.lie in
    let sent = outstanding-inside (transmit_ring a) p sound.transmit_slots.slot in
    record {
      lies = lies-inside a.memory area r inside lie.received;
      own = record {
        received = own-apart ring o slot sound.receive_slots.slot own;
        sent = λ k d below. apart-inside area r _ inside (inside-apart r _ t (sent k d below) parts.rings);
        frames = λ k d below. apart-inside area r _ inside (parts.receive_rest k d below);
      };
      foreign = foreign-receive_slot o p a slot sound own;
    }

pub drivers_transmit_slots_can_be_written : DriversTransmitSlotsCanBeWritten
drivers_transmit_slots_can_be_written o p slot a sound own =
    let ring = transmit_ring a in
    let parts = parts-of o p a sound in
    let r = ring_area (receive_ring a) in
    let t = ring_area ring in
    let area = descriptor_area (address_of ring slot) in
    let inside = slot-inside ring.base (count_of ring) slot 16 own.below (omega arith) in
    let lie = of-areas (λ place. LiesIn a.memory place.address place.size) o a sound.separate.lie in
    let received = outstanding-inside (receive_ring a) o sound.receive_slots.slot in
    record {
      lies = lies-inside a.memory area t inside lie.sent;
      own = record {
        received = λ k d below. apart-inside area t _ inside (inside-apart t _ r (received k d below) (apart-sym r t parts.rings));
        sent = own-apart ring p slot sound.transmit_slots.slot own;
        frames = λ k d below. apart-inside area t _ inside (parts.transmit_rest k d below);
      };
      foreign = foreign-transmit_slot o p a slot sound own;
    }

other-address : (base slot other : ℕ) → ¬ (other ≡ slot) → base + 16 * other ≢ base + 16 * slot
other-address base slot other differ same = differ (omega (arith, same))

pub slots_from_tail_belong_to_driver : SlotsFromTailBelongToDriver
unfolding offered_places
slots_from_tail_belong_to_driver ring oldest slot first below behind =
    let n = count_of ring in
    let k = distance_of ring oldest ring.tail in
    let others = slots-other n oldest k slot first below behind in
    record {
      below = below;
      apart = All-map (λ other. other ≢ address_of ring slot) (address_of ring) (slots_from n oldest k)
          (λ i d inside. other-address ring.base slot _ (others i d inside));
    }

pub tail_slots_belong_to_driver : TailSlotsBelongToDriver
tail_slots_belong_to_driver ring oldest first below = slots_from_tail_belong_to_driver ring oldest ring.tail first below (omega arith)
