-- The actions of the transmit side over a bus.
use Rattle.std.proofs.Common.{true, false, ◌≡◌, ◌≤◌, ◌<◌, ◌+◌, ◌%◌, ◌++◌, ◌∷◌, [], ℕ, List, length, slice_index, inr, sym, ap, subst, ◌∙◌}
use Rattle.std.proofs.Common.{append_assoc, arith}
use Rattle.std.proofs.lemmas.List.Elements.{All-append, All-cons, All-map}
use Rattle.registers.specs.Bits.{is_set}
use Rattle.dma_memory.specs.Areas.{IsInside, area_at}
use Rattle.dma_memory.specs.AreaLaws.{apart-inside, inside-apart}
use Rattle.dma_memory.specs.HostMemory.{LiesIn, bytes_at}
use Rattle.dma_memory.specs.Laws.{bytes_at-elsewhere, bytes_at-stored}
use Rattle.dma_memory.specs.Layout.{TransmitBuffer, TransmitRing, area_of, transmit_buffer_bytes}
use Rattle.dma_memory.specs.LayoutLaws.{places-apart}
use Rattle.descriptors.specs.Frames.{padded}
use Rattle.descriptors.specs.Ring.{next_of, slots_from}
use Rattle.descriptors.specs.RingLaws.{next-below}
use Rattle.adapter_model.specs.Slots.{written_back_slots}
use Rattle.adapter_model.specs.World.{World, transmit_ring, world_after_store, world_after_write}
use Rattle.bus.proofs.Lists.{all-none}
use Rattle.bus.proofs.KnownRings.{transmit_tail-written}
use Rattle.bus.specs.Keeping.{view_of}
use Rattle.bus.specs.Law.{Acts, Happens}
use Rattle.bus.specs.Pasts.{Past, joined, nothing}
use Rattle.bus.specs.declared.event.Access.TheVariants.{Loads, Stores, Writes}
use Rattle.bus.specs.DriverState.{DriverState, transmit_slot, transmit_tail}
use Rattle.bus.specs.Calls.{Goes, Ran, at, call_did, driver_did, driver_in, only, send_accesses, tail_buffer, tail_slot}
use Rattle.bus.specs.Calls.{transmit_buffer, transmit_loads, whole_descriptor}
use Rattle.bus.specs.ReadyDrivers.{Ready}
use Rattle.bus.specs.TransmitSteps.{FrameStands, IsLoadOrStore, SendsEndWithTail, TailIsMoved, with_freed}
use Rattle.bus.proofs.DriverAccesses.{load-sets, ran_by-join, store-sets, write-sets, RanWith, run-with}
use Rattle.bus.proofs.Buffers.{front-same}
use Rattle.bus.proofs.OfferedAndFreedSlots.{frame_is_offered, length-whole, none_is_written_back, slot_is_freed}
use Rattle.bus.proofs.Steps.{goes-stays}
use Rattle.bus.proofs.TransmitSlots.{data_is_stored, descriptor_is_stored, next_slot_belongs_to_driver, drivers-buffer}
use Rattle.bus.proofs.TransmitSlots.{own-descriptor}
use Rattle.bus.proofs.TransmitSlots.{slots_keep_bytes}
use Rattle.bus.specs.declared.bus.Bus.{Ghosts}

-- A frame is sent

abbrev HasBytes : DriverState → List ℕ → World → Type 0
HasBytes d frame world = bytes_at world.memory (transmit_buffer d.layout (transmit_tail d)) (length frame) ≡ frame

bytes-stay : (d : DriverState) (frame : List ℕ) → length frame ≤ 1518 → (a b : World) (past : Past) → Ready d a → Happens a b past
    → HasBytes d frame a → HasBytes d frame b
bytes-stay d frame short a b past ready happens has =
    let same = slots_keep_bytes d (transmit_tail d) a b past ready (next_slot_belongs_to_driver d a ready) happens in
    front-same a.memory b.memory (transmit_buffer d.layout (transmit_tail d)) (length frame) transmit_buffer_bytes
    (omega (arith, short)) same.data_same
    ∙ has

stands-stay : (d : DriverState) (frame : List ℕ) → length frame ≤ 1518 → (a b : World) (past : Past) → Ready d a → Happens a b past
    → FrameStands d frame a → FrameStands d frame b
stands-stay d frame short a b past ready happens stands =
    let same = slots_keep_bytes d (transmit_tail d) a b past ready (next_slot_belongs_to_driver d a ready) happens in
    record { bytes = bytes-stay d frame short a b past ready happens stands.bytes; descriptor = same.descriptor_same ∙ stands.descriptor }

stands-stored : (d : DriverState) (frame : List ℕ) (world : World) → Ready d world → length frame ≤ 1518 → HasBytes d frame world
    → FrameStands d frame
    (world_after_store (transmit_slot d.layout (transmit_tail d))
    (whole_descriptor (transmit_buffer d.layout (transmit_tail d)) (length frame)) world)
stands-stored d frame world ready short has =
    let counts = d.layout in
    let slot = transmit_tail d in
    let place = transmit_slot counts slot in
    let start = transmit_buffer counts slot in
    let bytes = whole_descriptor start (length frame) in
    let b = world_after_store place bytes world in
    let long = length-whole start (length frame) in
    let own = next_slot_belongs_to_driver d world ready in
    let below = (drivers-buffer d slot world ready own).below in
    let lies : LiesIn world.memory place (length bytes) = subst (LiesIn world.memory place) (sym long)
    (own-descriptor d slot world ready own).lies in
    let in_ring : IsInside (area_at place (length bytes)) (area_of counts TransmitRing) = record
    { from = omega arith; to = omega (arith, long, below) } in
    let in_buffer : IsInside (area_at start (length frame)) (area_of counts (TransmitBuffer slot)) = record
    { from = omega arith; to = omega (arith, short) } in
    let apart =
    apart-inside (area_at place (length bytes)) (area_of counts TransmitRing) (area_at start (length frame)) in_ring
    (inside-apart (area_of counts TransmitRing) (area_at start (length frame)) (area_of counts (TransmitBuffer slot)) in_buffer
    (places-apart counts TransmitRing (TransmitBuffer slot) tt below (λ same. absurd (cc)))) in
    record {
      bytes = bytes_at-elsewhere world.memory bytes place start (length frame) lies apart ∙ has;
      descriptor = subst (λ (size : ℕ). bytes_at b.memory place size ≡ bytes) long (bytes_at-stored world.memory bytes place lies);
    }

pub tail_is_moved : TailIsMoved
tail_is_moved d world ready =
    let ring = world.adapter.transmit_ring in
    let up = ready.transmit in
    let below = (drivers-buffer d (transmit_tail d) world ready (next_slot_belongs_to_driver d world ready)).below in
    let next : (transmit_tail d + 1) % d.layout.tx
    ≡ next_of (transmit_ring world) ring.tail = ap (λ (tail : ℕ). (tail + 1) % d.layout.tx) (sym up.knows.last)
    ∙ ap (λ (count : ℕ). (ring.tail + 1) % count) (sym up.knows.slots) in
    transmit_tail-written ((transmit_tail d + 1) % d.layout.tx) world
    (omega (arith, up.knows.slots, next-below d.layout.tx (transmit_tail d) below))
    ∙ ap (λ (tail : ℕ). let after : World = record world
    { adapter = record world.adapter { transmit_ring = record world.adapter.transmit_ring { tail = tail } } } in after) next

pub run-sends : {B : Type 0} (bus : Ghosts B)
    → ((a b c : B) (s t : Past) → bus.happened a b s → bus.happened b c t → bus.happened a c (joined s t))
    → (old one two new : B) (d : DriverState) (frame : List ℕ) → d.sending + 1 < d.layout.tx → 14 ≤ length frame → length frame ≤ 1518
    → (buffer slot next : ℕ) (bytes : List ℕ) → buffer ≡ transmit_buffer d.layout (transmit_tail d)
    → slot ≡ transmit_slot d.layout (transmit_tail d)
    → bytes ≡ whole_descriptor (transmit_buffer d.layout (transmit_tail d)) (length frame) → next ≡ (transmit_tail d + 1) % d.layout.tx
    → Acts (view_of bus) old one (Stores buffer frame) (λ before after. after ≡ world_after_store buffer frame before)
    → Acts (view_of bus) one two (Stores slot bytes) (λ before after. after ≡ world_after_store slot bytes before)
    → Acts (view_of bus) two new (Writes 0x3818 next) (λ before after. after ≡ world_after_write 0x3818 next before)
    → Ready d (bus.world old)
    → Ran bus true (call_did (send_accesses d frame) [] (padded frame ∷ [])) (at old d) (at new (record d { sending = d.sending + 1 }))
run-sends {B} bus joins old one two new d frame room least short buffer slot next bytes buffer_is slot_is bytes_is next_is
    stores_data stores_descriptor writes ready =
    let place = transmit_slot d.layout (transmit_tail d) in
    let start = transmit_buffer d.layout (transmit_tail d) in
    let descriptor = whole_descriptor start (length frame) in
    let tail = (transmit_tail d + 1) % d.layout.tx in
    let sent : DriverState = record d { sending = d.sending + 1 } in
    let Stored : B → B → ℕ → List ℕ
    → Type 0 = λ a b address list. Acts (view_of bus) a b (Stores address list)
    (λ before after. after ≡ world_after_store address list before) in
    let Written : ℕ → Type 0 = λ value. Acts (view_of bus) two new (Writes 0x3818 value)
    (λ before after. after ≡ world_after_write 0x3818 value before) in
    let first : Stored old one start frame = subst (λ (address : ℕ). Stored old one address frame) buffer_is stores_data in
    let second : Stored one two place descriptor = subst (Stored one two place) bytes_is
    (subst (λ (address : ℕ). Stored one two address bytes) slot_is stores_descriptor) in
    let third : Written tail = subst Written next_is writes in
    let stored_data : RanWith bus true (only (Stores start frame ∷ [])) (at old d) (at one d) (HasBytes d frame) =
    run-with bus old one (Stores start frame)
    (λ before after. after ≡ world_after_store start frame before) d d [] [] (λ world. Unit {0}) (HasBytes d frame) first
    (store-sets start frame (bus.world one)) ready tt (λ a b past set happens u. tt)
    (λ middle set u stored.
    let own = next_slot_belongs_to_driver d middle set in
    let lies : LiesIn middle.memory start (length frame) =
    omega (arith, (drivers-buffer d (transmit_tail d) middle set own).lies, short) in (
      subst (λ (after : World). Goes (driver_in d middle) (driver_in d after) (driver_did [] []) nothing) (sym stored)
          (data_is_stored d (transmit_tail d) frame middle set own (omega (arith, short))),
      subst (HasBytes d frame) (sym stored) (bytes_at-stored middle.memory frame start lies),
    )) in
    let named : RanWith bus true (only (Stores place descriptor ∷ [])) (at one d) (at two d) (FrameStands d frame) =
    run-with bus one two (Stores place descriptor)
    (λ before after. after ≡ world_after_store place descriptor before) d d [] [] (HasBytes d frame) (FrameStands d frame) second
    (store-sets place descriptor (bus.world two)) stored_data.ran.goes.flows.ready stored_data.behind (bytes-stay d frame short)
    (λ middle set has stored. (
      subst (λ (after : World). Goes (driver_in d middle) (driver_in d after) (driver_did [] []) nothing) (sym stored)
          (descriptor_is_stored d (transmit_tail d) descriptor middle set (next_slot_belongs_to_driver d middle set)
          (length-whole start (length frame))),
      subst (FrameStands d frame) (sym stored) (stands-stored d frame middle set short has),
    )) in
    let offered : RanWith bus true (call_did (Writes 0x3818 tail ∷ []) [] (padded frame ∷ [])) (at two d) (at new sent)
    (λ world. Unit {0}) = run-with bus two new (Writes 0x3818 tail)
    (λ before after. after ≡ world_after_write 0x3818 tail before) d sent [] (padded frame ∷ []) (FrameStands d frame)
    (λ world. Unit {0}) third (write-sets 0x3818 tail (bus.world new)) named.ran.goes.flows.ready named.behind
    (stands-stay d frame short)
    (λ middle set stands written. (
      subst (λ (after : World). Goes (driver_in d middle) (driver_in sent after) (driver_did [] (padded frame ∷ [])) nothing)
          (sym (written ∙ tail_is_moved d middle set))
          (frame_is_offered d frame middle set room least short stands),
      tt,
    )) in
    ran_by-join bus joins (Stores start frame ∷ Stores place descriptor ∷ [])
    (Writes 0x3818 tail ∷ []) old two new d d sent [] [] [] (padded frame ∷ [])
    (ran_by-join bus joins (Stores start frame ∷ [])
    (Stores place descriptor ∷ []) old one two d d d [] [] [] [] stored_data.ran named.ran) offered.ran

-- The oldest slot's descriptor is loaded

abbrev pub LoadsOldest : {B : Type 0} (bus : Ghosts B) (old new : B) (d : DriverState) (bytes : List ℕ) → Type 0
LoadsOldest bus old new d bytes =
    Acts (view_of bus) old new (Loads (transmit_slot d.layout d.oldest_transmit) 16)
    (λ before after. (bytes ≡ bytes_at before.memory (transmit_slot d.layout d.oldest_transmit) 16) × (after ≡ before))

-- The oldest slot's descriptor is loaded, and then the driver may free this slot.
run-loads : {B : Type 0} (bus : Ghosts B) (old new : B) (d d' : DriverState) (bytes : List ℕ) (Behind : World → Type 0)
    → ((middle : World) → Ready d middle → bytes ≡ bytes_at middle.memory (transmit_slot d.layout d.oldest_transmit) 16
    → Goes (driver_in d middle) (driver_in d' middle) (driver_did [] []) nothing × Behind middle)
    → LoadsOldest bus old new d bytes → Ready d (bus.world old)
    → RanWith bus true (only (Loads (transmit_slot d.layout d.oldest_transmit) 16 ∷ [])) (at old d) (at new d') Behind
run-loads bus old new d d' bytes Behind goes acts ready =
    let slot = transmit_slot d.layout d.oldest_transmit in
    run-with bus old new (Loads slot 16) (λ before after. (bytes ≡ bytes_at before.memory slot 16) × (after ≡ before)) d d' [] []
    (λ world. Unit {0}) Behind acts (load-sets slot 16 (λ before. bytes ≡ bytes_at before.memory slot 16) (bus.world new)) ready tt
    (λ a b past set happens u. tt)
    (λ middle set u loaded.
    subst (λ (after : World). Goes (driver_in d middle) (driver_in d' after) (driver_did [] []) nothing × Behind after) (sym loaded.1)
    (goes middle set loaded.0))

pub run-frees : {B : Type 0} (bus : Ghosts B) (old new : B) (d : DriverState) (bytes : List ℕ) → 0 < d.sending
    → is_set (slice_index bytes 12) 0 ≡ true
    → LoadsOldest bus old new d bytes → Ready d (bus.world old)
    → Ran bus true (only (Loads (transmit_slot d.layout d.oldest_transmit) 16 ∷ [])) (at old d) (at new (with_freed d))
run-frees bus old new d bytes some done acts ready =
    (run-loads bus old new d (with_freed d) bytes (λ world. Unit {0})
    (λ middle set loaded.
    (slot_is_freed d middle set some (ap (λ (list : List ℕ). is_set (slice_index list 12) 0) (sym loaded) ∙ done), tt)) acts ready).ran

pub run-waits : {B : Type 0} (bus : Ghosts B) (old new : B) (d : DriverState) (bytes : List ℕ) → is_set (slice_index bytes 12) 0 ≡ false
    → LoadsOldest bus old new d bytes → Ready d (bus.world old)
    → RanWith bus true (only (Loads (transmit_slot d.layout d.oldest_transmit) 16 ∷ [])) (at old d) (at new d)
    (λ world. written_back_slots d.oldest_transmit world ≡ [])
run-waits bus old new d bytes clear acts ready =
    run-loads bus old new d d bytes (λ world. written_back_slots d.oldest_transmit world ≡ [])
    (λ middle set loaded. (
      goes-stays d middle set,
      none_is_written_back d middle set (inr (ap (λ (list : List ℕ). is_set (slice_index list 12) 0) (sym loaded) ∙ clear)),
    )) acts ready

-- The accesses of a call that sends a frame

pub sends_end_with_tail : SendsEndWithTail
sends_end_with_tail d frame k =
    let loads = transmit_loads d.layout d.oldest_transmit k in
    let data_store = Stores (tail_buffer d) frame in
    let descriptor_store = Stores (tail_slot d) (whole_descriptor (tail_buffer d) (length frame)) in
    let stores = data_store ∷ descriptor_store ∷ [] in
    record {
      quiet = loads ++ stores;
      all =
          All-append IsLoadOrStore loads stores
          (All-map IsLoadOrStore (λ slot. Loads (transmit_slot d.layout slot) 16) (slots_from d.layout.tx d.oldest_transmit k)
          (λ i index below. tt))
          (All-cons IsLoadOrStore data_store (descriptor_store ∷ []) tt
          (All-cons IsLoadOrStore descriptor_store [] tt (all-none IsLoadOrStore)));
      whole = sym (append_assoc loads stores (Writes 0x3818 ((transmit_tail d + 1) % d.layout.tx) ∷ []));
    }
