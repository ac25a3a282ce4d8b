-- Stores of initialization: to receive slots that remain the driver's, and to the transmit ring while the transmit side
-- is off.
use Rattle.std.proofs.Common.{false, ◌≡◌, ◌<◌, ◌+◌, ◌*◌, [], ℕ, List, length, sym, ap, subst, ◌∙◌, arith}
use Rattle.std.specs.List.{All}
use Rattle.dma_memory.specs.Areas.{AreApart, Area, IsInside, area_at, descriptor_area}
use Rattle.dma_memory.specs.AreaLaws.{apart-inside, apart-sym, inside-apart, lies-inside}
use Rattle.dma_memory.specs.HostMemory.{LiesIn, bytes_at, with_bytes}
use Rattle.dma_memory.specs.Laws.{bytes_at-elsewhere}
use Rattle.dma_memory.specs.Layout.{ReceiveBuffer, ReceiveRing, TransmitRing, area_of}
use Rattle.dma_memory.specs.LayoutLaws.{place-below_size, places-apart}
use Rattle.descriptors.specs.Ring.{address_of}
use Rattle.descriptors.specs.RingLaws.{place}
use Rattle.adapter_model.specs.HostAreas.{ring_area}
use Rattle.adapter_model.specs.World.{World, receive_ring, world_after_store}
use Rattle.bus.proofs.Lists.{all-none}
use Rattle.bus.proofs.Rings.{outstanding-inside}
use Rattle.bus.specs.Pasts.{nothing}
use Rattle.bus.specs.WritableSlots.{CanBeWritten}
use Rattle.bus.specs.DriversStores.{IsDriversArea}
use Rattle.bus.specs.Beginnings.{LastSlotIsStored, SpareSlotIsStored, TransmitPlaceIsStored, spare_slot}
use Rattle.bus.specs.Calls.{GoesTo, driver_did, driver_in}
use Rattle.bus.specs.DriverState.{DriverState, receive_slot, receive_tail}
use Rattle.bus.specs.ReadyDrivers.{ReadyWith}
use Rattle.bus.proofs.Buffers.{known-area}
use Rattle.bus.proofs.WritableSlots.{drivers_receive_slots_can_be_written}
use Rattle.bus.proofs.Places.{place-add, place-below, places-differ}
use Rattle.bus.proofs.Readiness.{own-staged, stored-kept}
use Rattle.bus.proofs.Stores.{goes-stores, slots-apart}
use Rattle.bus.proofs.TransmitRing.{areas-idle, none-outstanding, place-away, received_areas}
use Rattle.bus.proofs.TransmitSlots.{stored-elsewhere}

pub spare_slot_is_stored : SpareSlotIsStored
spare_slot_is_stored up driver e bytes world ready long room =
    let n = driver.layout.rx in
    let o = driver.oldest_receive in
    let p = driver.oldest_transmit in
    let i = length driver.buffers in
    let j = length driver.staged + e in
    let at_slot = spare_slot driver e in
    let slot = receive_slot at_slot in
    let area = area_at slot (length bytes) in
    let walked : place n (receive_tail driver) j ≡ at_slot = sym (place-add n o i j) in
    let at : address_of (receive_ring world) (place n (receive_tail driver) j)
    ≡ slot = omega (arith, ready.receive.begins, ap (λ (index : ℕ). 16 * index) walked) in
    let own : CanBeWritten o p world slot = subst (CanBeWritten o p world) at
    (drivers_receive_slots_can_be_written o p _ world ready.law.sound (own-staged driver world j ready room)) in
    let lies : LiesIn world.memory slot (length bytes) = subst (LiesIn world.memory slot) (sym long) own.lies in
    let below : at_slot < n = place-below n o (i + j) ready.driver_is.oldest_slot in
    let inside : IsInside area (area_of driver.layout ReceiveRing) = record { from = omega arith; to = omega (arith, long, below) } in
    let staged : ℕ → ℕ = λ k. receive_slot (place n (receive_tail driver) k) in
    let others : (k : ℕ) → k < length driver.staged
    → bytes_at (with_bytes world.memory slot bytes) (staged k) 16 ≡ bytes_at world.memory (staged k) 16 = λ k before.
    bytes_at-elsewhere world.memory bytes slot (staged k) 16 lies
    (slots-apart at_slot (place n (receive_tail driver) k) (length bytes) long
    (λ same. places-differ n o (i + k) (i + j) ready.driver_is.oldest_slot (omega (arith, before)) room (place-add n o i k ∙ same))) in
    goes-stores driver driver.staged driver.pool world slot bytes ready lies
    (subst (λ (size : ℕ). IsDriversArea o p world (area_at slot size)) (sym long) own.own) ready.driver_is
    (stored-kept world.memory (with_bytes world.memory slot bytes) driver.layout (receive_tail driver) driver.staged others
    ready.slots.stored)
    (λ number known.
    apart-inside area (area_of driver.layout ReceiveRing) (area_of driver.layout (ReceiveBuffer number)) inside
    (places-apart driver.layout ReceiveRing (ReceiveBuffer number) tt known (λ same. absurd (cc))))

-- The slot after the outstanding and staged slots is the first of the spare slots.
pub last_slot_is_stored : LastSlotIsStored
last_slot_is_stored up driver bytes world ready long =
    let first : length driver.staged + 0 ≡ length driver.staged = omega arith in
    subst
    (λ (n : ℕ). GoesTo up (driver_in driver world)
    (driver_in driver
    (world_after_store (receive_slot (place driver.layout.rx driver.oldest_receive (length driver.buffers + n))) bytes world))
    (driver_did [] []) nothing) first
    (spare_slot_is_stored up driver 0 bytes world ready long (omega (arith, ready.driver_is.room)))

place-own : (driver : DriverState) (area : Area) (world : World) → ReadyWith false driver world
    → IsInside area (area_of driver.layout TransmitRing) → IsDriversArea driver.oldest_receive driver.oldest_transmit world area
place-own driver area world ready inside =
    let o = driver.oldest_receive in
    let p = driver.oldest_transmit in
    let r = ring_area (receive_ring world) in
    let whole = area_of driver.layout TransmitRing in
    let received = outstanding-inside (receive_ring world) o ready.law.sound.receive_slots.slot in
    let rings : AreApart whole r = subst (AreApart whole) (sym (known-area _ _ _ _ ready.receive))
    (places-apart driver.layout TransmitRing ReceiveRing tt tt (λ same. absurd (cc))) in
    let away : All (λ other. AreApart area other) (received_areas o world) = λ k d below. apart-inside area whole _ inside
    (apart-sym _ whole (place-away driver world ready k d below)) in
    record {
      received = λ k d below. apart-inside area whole _ inside (inside-apart whole _ r (received k d below) rings);
      sent = subst (λ (slots : List ℕ). All (λ slot. AreApart area (descriptor_area slot)) slots)
          (sym (none-outstanding driver world ready)) (all-none _);
      frames = subst (λ (list : List Area). All (AreApart area) list) (sym (areas-idle o world ready.transmit.idle)) away;
    }

pub transmit_place_is_stored : TransmitPlaceIsStored
transmit_place_is_stored driver address bytes world ready inside =
    let counts = driver.layout in
    let area = area_at address (length bytes) in
    let whole = area_of counts TransmitRing in
    let ends = place-below_size counts TransmitRing tt in
    let lies : LiesIn world.memory address (length bytes) = lies-inside world.memory area whole inside (omega (arith, ends, ready.lies)) in
    goes-stores driver driver.staged driver.pool world address bytes ready lies (place-own driver area world ready inside) ready.driver_is
    (stored-elsewhere driver world address bytes ready lies
    (inside-apart (area_of counts ReceiveRing) area whole inside
    (places-apart counts ReceiveRing TransmitRing tt tt (λ same. absurd (cc)))))
    (λ number known. apart-inside area whole (area_of counts (ReceiveBuffer number)) inside
    (places-apart counts TransmitRing (ReceiveBuffer number) tt known (λ same. absurd (cc))))
