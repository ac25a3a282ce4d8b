-- A driver clears descriptors that the adapter doesn't use.
use Rattle.std.proofs.Common.{Bool, false, ◌≡◌, ◌≤◌, ◌<◌, ◌+◌, ◌-◌, ◌*◌, ◌%◌, ◌^◌, ◌++◌, ◌∷◌, [], ℕ, List, length, map, replicate}
use Rattle.std.proofs.Common.{inr, refl, sym, ap, subst, ◌∙◌, arith}
use Rattle.std.specs.List.{All}
use Rattle.std.proofs.Math.Nat.{mod-eq_of_lt}
use Rattle.dma_memory.specs.Areas.{AreApart, AreSeparate, Area, area_at, descriptor_area}
use Rattle.dma_memory.specs.AreaLaws.{apart-inside, apart-sym, inside-apart}
use Rattle.dma_memory.specs.HostMemory.{LiesIn, bytes_at, with_bytes}
use Rattle.dma_memory.specs.Laws.{bytes_at-elsewhere}
use Rattle.dma_memory.specs.Layout.{ReceiveBuffer, TransmitRing, area_of}
use Rattle.dma_memory.specs.LayoutLaws.{places-apart}
use Rattle.descriptors.specs.RingLaws.{place}
use Rattle.adapter.specs.HostAreas.{data_of, frame_areas, offered_buffers, ring_area, work_areas}
use Rattle.adapter.specs.HostFrames.{named}
use Rattle.adapter.specs.Slots.{finished, outstanding}
use Rattle.adapter.specs.World.{World, receive_ring, transmit_ring, world_after_store}
use Rattle.adapter.specs.model_types.ring.RingRegisters.{RingRegisters}
use Rattle.adapter.specs.RegisterSetting.{with_transmit_ring}
use Rattle.adapter.specs.Keeping.{view_of}
use Rattle.adapter.specs.Law.{Acts}
use Rattle.adapter.specs.DriversStores.{IsDriversArea}
use Rattle.adapter.specs.Pasts.{nothing}
use Rattle.adapter.specs.bus_types.bus.Bus.{Ghosts}
use Rattle.adapter.specs.bus_types.event.Access.TheVariants.{Stores}
use Rattle.adapter.proofs.IdleRings.{offered-none, outstanding-none}
use Rattle.adapter.proofs.Lists.{all-head, all-none, all-tail, pairs-head, pairs-tail}
use Rattle.adapter.proofs.Rings.{outstanding-inside}
use Rattle.adapter.specs.Beginnings.{spare_slot}
use Rattle.adapter.specs.Calls.{GoesTo, Ran, at, driver_did, driver_in, only}
use Rattle.adapter.specs.DriverState.{DriverState, receive_slot, receive_tail, transmit_slot}
use Rattle.adapter.specs.ReadyDrivers.{ReadyWith}
use Rattle.adapter.proofs.DriverAccesses.{ran_by-acts, store-sets}
use Rattle.adapter.proofs.InitialStores.{spare_slot_is_stored}
use Rattle.adapter.proofs.Places.{place-below, place-sum}
use Rattle.adapter.proofs.Readiness.{stored-kept}
use Rattle.adapter.proofs.Stores.{goes-stores}
use Rattle.adapter.proofs.TransmitRing.{transmit_ring_is_written}
use Rattle.bring_up.specs.ClearedDescriptors.{clears}

abbrev zeros : List ℕ
zeros = replicate 16 0

-- The descriptor at this address is inside memory, and no outstanding slot, frame or buffer overlaps it (`IsDriversArea`).
record CanClear (d : DriverState) (world : World) (address : ℕ) : Type 0 where
  lies : LiesIn world.memory address 16
  own : IsDriversArea d.oldest_receive d.oldest_transmit world (area_at address 16)

-- A slot of the transmit ring, while the transmit side is off

-- a ring with this slot only
abbrev ring_of_one : ℕ → RingRegisters
ring_of_one address = record { base_low = address; base_high = 0; length_bytes = 16; head = 0; tail = 0 }

-- Such a ring could be set up, so the slot is apart from all areas of the receive side.
sent-own : (d : DriverState) (slot : ℕ) (world : World) → ReadyWith false d world → slot < d.layout.tx
    → CanClear d world (transmit_slot d.layout slot)
sent-own d slot world ready below =
    let o = d.oldest_receive in
    let address = transmit_slot d.layout slot in
    let ring = ring_of_one address in
    let bare = with_transmit_ring ring world in
    let set = (transmit_ring_is_written d ring world ready refl (record { from = omega arith; to = omega (arith, below) })).flows.ready in
    let r = ring_area (receive_ring world) in
    let t = area_at address 16 in
    let Lies : Area → Type 0 = λ area. LiesIn world.memory area.address area.size in
    let start : 0 * 2 ^ 32 + address ≡ address = omega arith in
    let separate = subst (λ (from : ℕ). AreSeparate world.memory (r ∷ area_at from 16 ∷ frame_areas o bare)) start set.law.sound.separate in
    let lie = all-head Lies t (frame_areas o bare) (all-tail Lies r (t ∷ frame_areas o bare) separate.lie) in
    let from_ring = all-head (AreApart r) t (frame_areas o bare) (pairs-head AreApart r (t ∷ frame_areas o bare) separate.apart) in
    let away = pairs-head AreApart t (frame_areas o bare) (pairs-tail AreApart r (t ∷ frame_areas o bare) separate.apart) in
    let received = map (named world.memory) (finished o world)
    ++ (work_areas world.memory world.adapter.receiver.work ++ offered_buffers world) in
    let same : (slots : List ℕ) → slots ≡ []
    → map (data_of world.memory) slots ++ received
    ≡ received = λ slots none. ap (λ (list : List ℕ). map (data_of world.memory) list ++ received) none in
    let bare_same : frame_areas o bare ≡ received = same _ (offered-none (transmit_ring bare) refl) in
    let world_same : frame_areas o world ≡ received = same _ (offered-none (transmit_ring world) ready.transmit.idle) in
    let none : outstanding (transmit_ring world) d.oldest_transmit
    ≡ [] = subst (λ (oldest : ℕ). outstanding (transmit_ring world) oldest ≡ []) ready.transmit.last
    (outstanding-none (transmit_ring world)) in
    let inside = outstanding-inside (receive_ring world) o ready.law.sound.receive_slots.slot in
    record {
      lies = lie;
      own = record {
        received = λ k s within. inside-apart t _ r (inside k s within) (apart-sym r t from_ring);
        sent = subst (All (λ other. AreApart t (descriptor_area other))) (sym none)
            (all-none (λ other. AreApart t (descriptor_area other)));
        frames = subst (All (AreApart t)) (bare_same ∙ sym world_same) away;
      };
    }

clears-sent : (d : DriverState) (slot : ℕ) (world : World) → ReadyWith false d world → slot < d.layout.tx
    → GoesTo false (driver_in d world) (driver_in d (world_after_store (transmit_slot d.layout slot) zeros world)) (driver_did [] [])
    nothing
clears-sent d slot world ready below =
    let n = d.layout.rx in
    let address = transmit_slot d.layout slot in
    let can = sent-own d slot world ready below in
    let memory' = with_bytes world.memory address zeros in
    let others : (i : ℕ) → i < length d.staged
    → bytes_at memory' (receive_slot (place n (receive_tail d) i)) 16
    ≡ bytes_at world.memory (receive_slot (place n (receive_tail d) i)) 16 = λ i before.
    let within = place-below n (receive_tail d) i (place-below n d.oldest_receive (length d.buffers) ready.driver_is.oldest_slot) in
    bytes_at-elsewhere world.memory zeros address (receive_slot (place n (receive_tail d) i)) 16 can.lies (inr (omega (arith, within))) in
    goes-stores d d.staged d.pool world address zeros ready can.lies can.own ready.driver_is
    (stored-kept world.memory memory' d.layout (receive_tail d) d.staged others ready.slots.stored)
    (λ number known.
    apart-inside (area_at address 16) (area_of d.layout TransmitRing) (area_of d.layout (ReceiveBuffer number))
    (record { from = omega arith; to = omega (arith, below) })
    (places-apart d.layout TransmitRing (ReceiveBuffer number) tt known (λ same. absurd (cc))))

clears-spare : {up : Bool} (d : DriverState) (slot : ℕ) (world : World) → ReadyWith up d world → d.oldest_receive ≡ 0
    → length d.buffers + length d.staged ≤ slot → slot < d.layout.rx
    → GoesTo up (driver_in d world) (driver_in d (world_after_store (receive_slot slot) zeros world)) (driver_did [] []) nothing
clears-spare {up} d slot world ready oldest past below =
    let n = d.layout.rx in
    let i = slot - (length d.buffers + length d.staged) in
    let all : length d.buffers + (length d.staged + i) ≡ slot = omega (arith, past) in
    let sum : d.oldest_receive + slot ≡ slot = omega (arith, oldest) in
    let at : spare_slot d i ≡ slot = ap (place n d.oldest_receive) all ∙ place-sum n d.oldest_receive slot ready.driver_is.oldest_slot
    ∙ ap (λ (index : ℕ). index % n) sum ∙ mod-eq_of_lt below in
    subst
    (λ (index : ℕ). GoesTo up (driver_in d world) (driver_in d (world_after_store (receive_slot index) zeros world)) (driver_did [] [])
    nothing) at
    (spare_slot_is_stored up d i zeros world ready refl (omega (arith, all, below)))

-- Stores that clear descriptors, over a bus

abbrev pub StoreActs : {B : Type 0} (bus : Ghosts B) (old new : B) (address : ℕ) → Type 0
StoreActs bus old new address = Acts (view_of bus) old new (Stores address (replicate 16 0))
    (λ before after. after ≡ world_after_store address (replicate 16 0) before)

ran_by-clears : {up : Bool} {B : Type 0} (bus : Ghosts B) (old new : B) (d : DriverState) (address place : ℕ) → address ≡ place
    → StoreActs bus old new address → ReadyWith up d (bus.world old)
    → ((middle : World) → ReadyWith up d middle
    → GoesTo up (driver_in d middle) (driver_in d (world_after_store place zeros middle)) (driver_did [] []) nothing)
    → Ran bus up (only (clears address ∷ [])) (at old d) (at new d)
ran_by-clears {up} bus old new d address place at acts ready goes =
    ran_by-acts bus old new (Stores address zeros)
    (λ before after. after ≡ world_after_store address zeros before) d d [] [] acts (store-sets address zeros (bus.world new)) ready
    (λ middle there stored.
    subst (λ (w : World). GoesTo up (driver_in d middle) (driver_in d w) (driver_did [] []) nothing)
    (sym (stored ∙ ap (λ (x : ℕ). world_after_store x zeros middle) at))
    (goes middle there))

pub ran_by-clears_sent : {B : Type 0} (bus : Ghosts B) (old new : B) (d : DriverState) (slot address : ℕ)
    → slot < d.layout.tx → address ≡ transmit_slot d.layout slot
    → StoreActs bus old new address → ReadyWith false d (bus.world old)
    → Ran bus false (only (clears address ∷ [])) (at old d) (at new d)
ran_by-clears_sent bus old new d slot address below at acts ready =
    ran_by-clears bus old new d address (transmit_slot d.layout slot) at acts ready
    (λ middle there. clears-sent d slot middle there below)

pub ran_by-clears_spare : {up : Bool} {B : Type 0} (bus : Ghosts B) (old new : B) (d : DriverState) (slot address : ℕ)
    → d.oldest_receive ≡ 0 → length d.buffers + length d.staged ≤ slot → slot < d.layout.rx → address ≡ receive_slot slot
    → StoreActs bus old new address → ReadyWith up d (bus.world old)
    → Ran bus up (only (clears address ∷ [])) (at old d) (at new d)
ran_by-clears_spare bus old new d slot address oldest past below at acts ready =
    ran_by-clears bus old new d address (receive_slot slot) at acts ready
    (λ middle there. clears-spare d slot middle there oldest past below)
