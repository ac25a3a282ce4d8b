-- Stores to the buffer and the descriptor of a transmit slot that isn't outstanding.
use Rattle.std.proofs.Common.{Bool, ◌≡◌, ◌≢◌, ◌≤◌, ◌<◌, ◌*◌, ◌∷◌, ℕ, List, length, get_or, sym, subst, arith}
use Rattle.std.specs.List.{All}
use Rattle.std.proofs.lemmas.List.Elements.{All-map}
use Rattle.dma_memory.specs.Areas.{AreApart, Area, IsInside, area_at, descriptor_area}
use Rattle.dma_memory.specs.AreaLaws.{apart-inside, apart-sym, inside-apart}
use Rattle.dma_memory.specs.HostMemory.{LiesIn, with_bytes}
use Rattle.dma_memory.specs.Laws.{bytes_at-elsewhere}
use Rattle.dma_memory.specs.Layout.{ReceiveBuffer, ReceiveRing, TransmitBuffer, TransmitRing, area_of}
use Rattle.dma_memory.specs.Layout.{receive_buffer_bytes, transmit_buffer_bytes}
use Rattle.dma_memory.specs.LayoutLaws.{place-below_size, places-apart}
use Rattle.descriptors.specs.Ring.{address_of, slots_from}
use Rattle.descriptors.specs.RingLaws.{place}
use Rattle.adapter_model.specs.HostAreas.{IsForeign, areas, data_of, frame_areas, ring_area}
use Rattle.adapter_model.specs.Slots.{outstanding}
use Rattle.adapter_model.specs.World.{World, receive_ring, transmit_ring}
use Rattle.bus.proofs.Lists.{all-head, all-tail, all-unmapped}
use Rattle.bus.proofs.Rings.{outstanding-inside, slots-below}
use Rattle.bus.proofs.SpareMemory.{spare-apart, spare-foreign}
use Rattle.bus.specs.WritableSlots.{CanBeWritten}
use Rattle.bus.specs.DriversSlots.{IsDriversSlot}
use Rattle.bus.specs.DriversStores.{IsDriversArea}
use Rattle.bus.specs.SpareMemory.{IsSpare}
use Rattle.bus.specs.DriverState.{DriverState, receive_slot, receive_tail, transmit_slot}
use Rattle.bus.specs.ReadyDrivers.{AreStored, Ready, ReadyWith}
use Rattle.bus.specs.Calls.{transmit_buffer}
use Rattle.bus.specs.TransmitSteps.{DataIsStored, DescriptorIsStored, NextSlotBelongsToDriver, SlotsKeepBytes}
use Rattle.bus.proofs.Buffers.{known-area}
use Rattle.bus.proofs.WritableSlots.{drivers_transmit_slots_can_be_written}
use Rattle.bus.proofs.Places.{outstanding-known, own-behind, place-below}
use Rattle.bus.proofs.Readiness.{stored-kept}
use Rattle.bus.proofs.Stores.{goes-stores}
use Rattle.bus.proofs.TransmitRing.{outstanding-buffers}

pub next_slot_belongs_to_driver : NextSlotBelongsToDriver
next_slot_belongs_to_driver driver world ready =
    let up = ready.transmit in
    own-behind (transmit_ring world)
    (16 * driver.layout.rx) driver.layout.tx driver.oldest_transmit driver.sending 0 up.knows up.oldest_slot
    (omega (arith, up.room))

-- The descriptor of a slot that isn't outstanding

pub own-descriptor : (driver : DriverState) (slot : ℕ) (world : World) → Ready driver world
    → IsDriversSlot (transmit_ring world) driver.oldest_transmit slot
    → CanBeWritten driver.oldest_receive driver.oldest_transmit world (transmit_slot driver.layout slot)
own-descriptor driver slot world ready own =
    let at : address_of (transmit_ring world) slot ≡ transmit_slot driver.layout slot = omega (arith, ready.transmit.knows.begins) in
    subst (CanBeWritten driver.oldest_receive driver.oldest_transmit world) at
    (drivers_transmit_slots_can_be_written driver.oldest_receive driver.oldest_transmit slot world ready.law.sound own)

-- The buffer of a slot that isn't outstanding

below-count : (driver : DriverState) (slot : ℕ) (world : World) → Ready driver world
    → IsDriversSlot (transmit_ring world) driver.oldest_transmit slot → slot < driver.layout.tx
below-count driver slot world ready own = omega (arith, own.below, ready.transmit.knows.slots)

sources-apart : (driver : DriverState) (slot : ℕ) (world : World) → Ready driver world
    → IsDriversSlot (transmit_ring world) driver.oldest_transmit slot
    → All (λ other. AreApart (data_of world.memory other) (area_of driver.layout (TransmitBuffer slot)))
    (outstanding (transmit_ring world) driver.oldest_transmit)
sources-apart driver slot world ready own =
    let counts = driver.layout in
    let up = ready.transmit in
    let area = area_of counts (TransmitBuffer slot) in
    let slots = slots_from counts.tx driver.oldest_transmit driver.sending in
    let known =
    outstanding-known (transmit_ring world) (16 * counts.rx) counts.tx driver.oldest_transmit driver.sending up.knows up.oldest_slot
    up.room in
    let Other : ℕ → Type 0 = λ address. address ≢ address_of (transmit_ring world) slot in
    let others : All (λ index. Other (transmit_slot counts index)) slots = all-unmapped Other (transmit_slot counts) slots
    (subst (λ (list : List ℕ). All Other list) known own.apart) in
    let Apart : ℕ → Type 0 = λ address. AreApart (data_of world.memory address) area in
    subst (λ (list : List ℕ). All Apart list) (sym known)
    (All-map Apart (transmit_slot counts) slots (λ k index below.
    let other = get_or slots k index in
    apart-inside (data_of world.memory (transmit_slot counts other)) (area_of counts (TransmitBuffer other)) area (up.sources k index below)
    (places-apart counts (TransmitBuffer other) (TransmitBuffer slot)
    (slots-below counts.tx driver.oldest_transmit driver.sending up.oldest_slot k index below) (below-count driver slot world ready own)
    (λ same. others k index below (omega (arith, up.knows.begins, number other slot same))))))
  where
    number : (a b : ℕ) → TransmitBuffer a ≡ TransmitBuffer b → a ≡ b
    number a b same = cc

buffer-spare : (driver : DriverState) (slot : ℕ) (world : World) → Ready driver world
    → IsDriversSlot (transmit_ring world) driver.oldest_transmit slot
    → IsSpare receive_buffer_bytes driver.oldest_receive driver.oldest_transmit world (area_of driver.layout (TransmitBuffer slot))
buffer-spare driver slot world ready own =
    let counts = driver.layout in
    let area = area_of counts (TransmitBuffer slot) in
    let below = below-count driver slot world ready own in
    let Apart : Area → Type 0 = λ other. AreApart other area in
    record {
      receive_slots = subst Apart (sym (known-area _ _ _ _ ready.receive))
          (places-apart counts ReceiveRing (TransmitBuffer slot) tt below (λ same. absurd (cc)));
      transmit_slots = subst Apart (sym (known-area _ _ _ _ ready.transmit.knows))
          (places-apart counts TransmitRing (TransmitBuffer slot) tt below (λ same. absurd (cc)));
      buffers = outstanding-buffers driver world area ready
          (λ number known. places-apart counts (ReceiveBuffer number) (TransmitBuffer slot) known below (λ same. absurd (cc)));
      sources = sources-apart driver slot world ready own;
    }

-- Memory contains the slot's buffer. The buffer is apart from all areas in the conditions of the bus law, and the adapter may not write the
-- buffer.
pub record DriversBuffer (driver : DriverState) (slot : ℕ) (world : World) : Type 0 where
  pub below : slot < driver.layout.tx
  pub lies : LiesIn world.memory (transmit_buffer driver.layout slot) transmit_buffer_bytes
  pub apart : All (λ other. AreApart other (area_of driver.layout (TransmitBuffer slot))) (areas driver.oldest_receive world)
  pub foreign : IsForeign world (area_of driver.layout (TransmitBuffer slot))

pub drivers-buffer : (driver : DriverState) (slot : ℕ) (world : World) → Ready driver world
    → IsDriversSlot (transmit_ring world) driver.oldest_transmit slot → DriversBuffer driver slot world
drivers-buffer driver slot world ready own =
    let o = driver.oldest_receive in
    let p = driver.oldest_transmit in
    let area = area_of driver.layout (TransmitBuffer slot) in
    let below = below-count driver slot world ready own in
    let spare = buffer-spare driver slot world ready own in
    let ends = place-below_size driver.layout (TransmitBuffer slot) below in
    record {
      below = below;
      lies = omega (arith, ends, ready.lies);
      apart = spare-apart receive_buffer_bytes o p world area ready.law.sound ready.law.fit spare;
      foreign = spare-foreign receive_buffer_bytes o p world area ready.law.sound ready.law.fit spare;
    }

buffer-own : (driver : DriverState) (slot size : ℕ) (world : World) → Ready driver world → DriversBuffer driver slot world
    → size ≤ transmit_buffer_bytes
    → IsDriversArea driver.oldest_receive driver.oldest_transmit world (area_at (transmit_buffer driver.layout slot) size)
buffer-own driver slot size world ready buffer short =
    let o = driver.oldest_receive in
    let p = driver.oldest_transmit in
    let whole = area_of driver.layout (TransmitBuffer slot) in
    let area = area_at (transmit_buffer driver.layout slot) size in
    let inside : IsInside area whole = record { from = omega arith; to = omega (arith, short) } in
    let Apart : Area → Type 0 = λ other. AreApart other whole in
    let r = ring_area (receive_ring world) in
    let t = ring_area (transmit_ring world) in
    let behind = all-tail Apart r (t ∷ frame_areas o world) buffer.apart in
    let received = outstanding-inside (receive_ring world) o ready.law.sound.receive_slots.slot in
    let sent = outstanding-inside (transmit_ring world) p ready.law.sound.transmit_slots.slot in
    record {
      received = λ k d below. apart-inside area whole _ inside
          (inside-apart whole _ r (received k d below) (apart-sym r whole (all-head Apart r (t ∷ frame_areas o world) buffer.apart)));
      sent = λ k d below. apart-inside area whole _ inside
          (inside-apart whole _ t (sent k d below) (apart-sym t whole (all-head Apart t (frame_areas o world) behind)));
      frames = λ k d below. apart-inside area whole _ inside (apart-sym _ whole (all-tail Apart t (frame_areas o world) behind k d below));
    }

-- Stores to the buffer and the descriptor

pub stored-elsewhere : {up : Bool} (d : DriverState) (a : World) (address : ℕ) (bytes : List ℕ) → ReadyWith up d a
    → LiesIn a.memory address (length bytes)
    → AreApart (area_of d.layout ReceiveRing) (area_at address (length bytes))
    → AreStored (with_bytes a.memory address bytes) d.layout (receive_tail d) d.staged
stored-elsewhere d a address bytes ready lies apart =
    stored-kept a.memory (with_bytes a.memory address bytes) d.layout (receive_tail d) d.staged
    (λ i below.
    let index = place-below d.layout.rx (receive_tail d) i
    (place-below d.layout.rx d.oldest_receive (length d.buffers) ready.driver_is.oldest_slot) in
    let slot = receive_slot (place d.layout.rx (receive_tail d) i) in
    let inside : IsInside (area_at slot 16) (area_of d.layout ReceiveRing) = record { from = omega arith; to = omega (arith, index) } in
    bytes_at-elsewhere a.memory bytes address slot 16 lies
    (apart-sym (area_at slot 16) (area_at address (length bytes))
    (apart-inside (area_at slot 16) (area_of d.layout ReceiveRing) (area_at address (length bytes)) inside apart)))
    ready.slots.stored

pub data_is_stored : DataIsStored
data_is_stored driver slot bytes world ready own short =
    let counts = driver.layout in
    let buffer = drivers-buffer driver slot world ready own in
    let whole = area_of counts (TransmitBuffer slot) in
    let area = area_at (transmit_buffer counts slot) (length bytes) in
    let inside : IsInside area whole = record { from = omega arith; to = omega (arith, short) } in
    let lies : LiesIn world.memory (transmit_buffer counts slot) (length bytes) = omega (arith, buffer.lies, short) in
    goes-stores driver driver.staged driver.pool world (transmit_buffer counts slot) bytes ready lies
    (buffer-own driver slot (length bytes) world ready buffer short) ready.driver_is
    (stored-elsewhere driver world (transmit_buffer counts slot) bytes ready lies
    (inside-apart (area_of counts ReceiveRing) area whole inside
    (places-apart counts ReceiveRing (TransmitBuffer slot) tt buffer.below (λ same. absurd (cc)))))
    (λ number known. apart-inside area whole (area_of counts (ReceiveBuffer number)) inside
    (places-apart counts (TransmitBuffer slot) (ReceiveBuffer number) buffer.below known (λ same. absurd (cc))))

pub descriptor_is_stored : DescriptorIsStored
descriptor_is_stored driver slot bytes world ready own long =
    let counts = driver.layout in
    let below = below-count driver slot world ready own in
    let address = transmit_slot counts slot in
    let area = area_at address (length bytes) in
    let inside : IsInside area (area_of counts TransmitRing) = record { from = omega arith; to = omega (arith, long, below) } in
    let mine = own-descriptor driver slot world ready own in
    let lies : LiesIn world.memory address (length bytes) = omega (arith, mine.lies, long) in
    goes-stores driver driver.staged driver.pool world address bytes ready lies
    (subst (λ (size : ℕ). IsDriversArea driver.oldest_receive driver.oldest_transmit world (area_at address size)) (sym long) mine.own)
    ready.driver_is
    (stored-elsewhere driver world address bytes ready lies
    (inside-apart (area_of counts ReceiveRing) area (area_of counts TransmitRing) inside
    (places-apart counts ReceiveRing TransmitRing tt tt (λ same. absurd (cc)))))
    (λ number known. apart-inside area (area_of counts TransmitRing) (area_of counts (ReceiveBuffer number)) inside
    (places-apart counts TransmitRing (ReceiveBuffer number) tt known (λ same. absurd (cc))))

-- The slot keeps its bytes, whatever happens between two accesses

pub slots_keep_bytes : SlotsKeepBytes
slots_keep_bytes driver slot a b past ready own happens =
    let between = happens.between driver.oldest_receive driver.oldest_transmit ready.law.sound in
    record {
      data_same = between.untouched (area_of driver.layout (TransmitBuffer slot)) (drivers-buffer driver slot a ready own).foreign;
      descriptor_same = between.untouched (descriptor_area (transmit_slot driver.layout slot))
          (own-descriptor driver slot a ready own).foreign;
    }
