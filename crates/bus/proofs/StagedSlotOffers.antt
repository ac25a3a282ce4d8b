-- Staged slots are offered, all by one write of RDT.
use Rattle.std.proofs.Common.{Bool, ◌≡◌, ◌<◌, ◌+◌, ◌%◌, ◌++◌, ◌∷◌, [], ℕ, List, length, map, refl, sym, ap, subst, ◌∙◌, append_assoc}
use Rattle.registers.specs.Places.{rctl_en}
use Rattle.registers.specs.Bits.{HasBit}
use Rattle.std.proofs.Common.{length-append, arith}
use Rattle.std.specs.List.{All}
use Rattle.std.proofs.lemmas.List.{append-nil, map-append}
use Rattle.dma_memory.specs.Areas.{AreApart, Area, area_at}
use Rattle.dma_memory.specs.HostMemory.{LiesIn, bytes_at}
use Rattle.dma_memory.specs.Layout.{ReceiveBuffer, area_of, receive_buffer_bytes}
use Rattle.dma_memory.specs.LayoutLaws.{addresses-fit, place-below_size}
use Rattle.dma_memory.specs.Owners.{copies}
use Rattle.dma_memory.specs.OwnersLaws.{copies-cons, copies-itself, copies-push}
use Rattle.descriptors.specs.Ring.{address_of, next_of}
use Rattle.descriptors.specs.RingLaws.{place}
use Rattle.rx_engine.specs.Descriptors.{named_address}
use Rattle.adapter_model.specs.HostAreas.{areas, buffer_of, buffer_size}
use Rattle.adapter_model.specs.Slots.{outstanding}
use Rattle.adapter_model.specs.World.{World, receive_ring}
use Rattle.bus.specs.RegisterSetting.{with_tail}
use Rattle.bus.specs.SlotOffers.{CanOffer, offering}
use Rattle.bus.specs.Pasts.{nothing}
use Rattle.bus.proofs.SlotOffers.{slots_can_be_offered}
use Rattle.bus.proofs.Buffers.{buffer-aside}
use Rattle.bus.proofs.Owners.{elsewhere-number, one_owner-dealt}
use Rattle.bus.proofs.Places.{place-below, place-next, places-differ}
use Rattle.bus.proofs.Steps.{goes-passes, goes-stays, passes-same}
use Rattle.bus.proofs.Stores.{empty-stored}
use Rattle.bus.proofs.Intervals.{goes_join}
use Rattle.bus.specs.DriverState.{DriverState, buffer_at, next_receive, receive_slot, receive_tail, with_owners}
use Rattle.bus.specs.Calls.{GoesTo, driver_did, driver_in}
use Rattle.bus.specs.ReadyDrivers.{AreStored, ReadyWith}
use Rattle.bus.specs.ReceiveSteps.{StagedCanBeOffered}

-- the driver after the slots with these buffers were offered, with the others still staged
abbrev pub with_offered : DriverState → (numbers staged : List ℕ) → DriverState
with_offered d numbers staged = with_owners d (d.buffers ++ numbers) staged d.pool d.handed_out

-- The slot at the tail is staged with the buffer m, and can be offered. The buffer is apart from all areas in the conditions of the bus
-- law. `moved` is the place of the tail after the offer.
record IsNext (d : DriverState) (a : World) (m : ℕ) : Type 0 where
  free : All (λ other. AreApart other (area_of d.layout (ReceiveBuffer m))) (areas d.oldest_receive a)
  names : named_address a.memory (address_of (receive_ring a) a.adapter.receive_ring.tail) ≡ buffer_at d.layout m
  moved : next_of (receive_ring a) a.adapter.receive_ring.tail ≡ place d.layout.rx d.oldest_receive (length d.buffers + 1)
  can : CanOffer d.oldest_receive a

next-offer : {up : Bool} (d : DriverState) (m : ℕ) (rest : List ℕ) (a : World) → d.staged ≡ m ∷ rest → ReadyWith up d a → IsNext d a m
next-offer {up} d m rest a staged ready =
    let n = d.layout.rx in
    let o = d.oldest_receive in
    let i = length d.buffers in
    let ring = receive_ring a in
    let slot = address_of ring ring.tail in
    let at = buffer_at d.layout m in
    let area : Area = area_of d.layout (ReceiveBuffer m) in
    let elsewhere = elsewhere-number d m ready.driver_is (omega (arith, ap (copies m) staged, copies-itself m rest)) in
    let aside = buffer-aside d a m ready elsewhere.known elsewhere.free in
    let ends = place-below_size d.layout (ReceiveBuffer m) elsewhere.known in
    let here = subst (λ (list : List ℕ). AreStored a.memory d.layout (receive_tail d) list) staged ready.slots.stored in
    let is : slot ≡ receive_slot (receive_tail d) = omega (arith, ready.receive.begins, ready.receive.last) in
    let empty = empty-stored a.memory slot at (omega (arith, ends, addresses-fit ready.driver_is.allowed))
    (ap (λ (address : ℕ). bytes_at a.memory address 16) is ∙ here.0) in
    let stands : HasBit a.adapter.filter.rctl rctl_en → buffer_of a slot ≡ area = λ enabled.
    ap (λ (address : ℕ). area_at address (buffer_size a)) empty.names ∙ ap (area_at at) (ready.law.whole.sized enabled) in
    let moved : next_of ring ring.tail ≡ place n o (i + 1) = ap (λ (count : ℕ). (ring.tail + 1) % count) ready.receive.slots
    ∙ ap (λ (tail : ℕ). (tail + 1) % n) ready.receive.last ∙ sym (place-next n o i) in
    let room : i + 1 < n = omega (arith, ready.driver_is.room, ap length staged) in
    record {
      free = aside.apart;
      names = empty.names;
      moved = moved;
      can = record {
        ring = record {
          oldest_slot = omega (arith, ready.receive.slots, ready.driver_is.oldest_slot);
          head_slot = omega (arith, ready.receive.slots, ready.receive.head_slot);
          tail_slot = omega (arith, ready.receive.slots, ready.receive.last, place-below n o i ready.driver_is.oldest_slot);
          room = λ same. places-differ n o 0 (i + 1) ready.driver_is.oldest_slot (omega arith) room (sym (sym moved ∙ same));
        };
        fresh = empty.clear;
        lies = λ enabled. subst (λ (there : Area). LiesIn a.memory there.address there.size) (sym (stands enabled)) aside.lies;
        apart = λ enabled. subst (λ (there : Area). All (λ other. AreApart other there) (areas o a)) (sym (stands enabled)) aside.apart;
      };
    }

goes-offers_one : {up : Bool} (d : DriverState) (m : ℕ) (rest : List ℕ) (a : World) → d.staged ≡ m ∷ rest → ReadyWith up d a
    → GoesTo up (driver_in d a) (driver_in (with_offered d (m ∷ []) rest) (offering a)) (driver_did [] []) nothing
goes-offers_one {up} d m rest a staged ready =
    let o = d.oldest_receive in
    let ring = receive_ring a in
    let next = next-offer d m rest a staged ready in
    let done = slots_can_be_offered o d.oldest_transmit a ready.law.sound next.can in
    let d' = with_offered d (m ∷ []) rest in
    let here = subst (λ (list : List ℕ). AreStored a.memory d.layout (receive_tail d) list) staged ready.slots.stored in
    let longer = length-append d.buffers (m ∷ []) in
    let tail : receive_tail d' ≡ place d.layout.rx o (length d.buffers + 1) = ap (place d.layout.rx o) longer in
    goes-passes d (d.buffers ++ m ∷ []) rest d.pool d.handed_out a (offering a) nothing
    (passes-same o d.oldest_transmit a (offering a) done.same refl refl)
    (record {
      driver_is = record {
        oldest_slot = ready.driver_is.oldest_slot;
        room = omega (arith, ready.driver_is.room, longer, ap length staged);
        one_owner = one_owner-dealt d.layout.buffers d d'
            (λ k. omega (arith, copies-push k m d.buffers, ap (copies k) staged, copies-cons k m rest)) ready.driver_is.one_owner;
        allowed = ready.driver_is.allowed;
      };
      law = record {
        sound = done.same.sound;
        runs = done.runs ready.law.runs;
        fit = done.same.fits receive_buffer_bytes ready.law.fit.large ready.law.fit;
        whole = done.same.whole receive_buffer_bytes ready.law.whole.sized ready.law.whole;
      };
      lies = ready.lies;
      receive = record {
        begins = ready.receive.begins;
        slots = ready.receive.slots;
        last = next.moved
            ∙ sym tail;
        head_slot = ready.receive.head_slot;
      };
      transmit = ready.transmit;
      slots = record {
        names =
            ap (map (named_address a.memory)) done.last
            ∙ map-append (named_address a.memory) (outstanding ring o) (address_of ring ring.tail ∷ [])
            ∙ ap (λ (list : List ℕ). list ++ named_address a.memory (address_of ring ring.tail) ∷ []) ready.slots.names
            ∙ ap (λ (address : ℕ). map (buffer_at d.layout) d.buffers ++ address ∷ []) next.names
            ∙ sym (map-append (buffer_at d.layout) d.buffers (m ∷ []));
        stored = subst (λ (slot : ℕ). AreStored a.memory d.layout slot rest)
            (sym (tail ∙ place-next d.layout.rx o (length d.buffers))) here.1;
      };
      stand = ready.stand;
    })

goes-offers : {up : Bool} (numbers : List ℕ) (d : DriverState) (a : World) → d.staged ≡ numbers → ReadyWith up d a
    → GoesTo up (driver_in d a) (driver_in (with_offered d numbers []) (with_tail (next_receive d) a)) (driver_did [] []) nothing
goes-offers {up} [] d a staged ready =
    let driver : d ≡ with_offered d [] [] =
    ap (λ (list : List ℕ). with_owners d d.buffers list d.pool d.handed_out) staged
    ∙ ap (λ (list : List ℕ). with_owners d list [] d.pool d.handed_out) (sym (append-nil d.buffers)) in
    let none : length d.buffers + length d.staged ≡ length d.buffers = omega (arith, ap length staged) in
    let last : a.adapter.receive_ring.tail ≡ next_receive d = ready.receive.last ∙ ap (place d.layout.rx d.oldest_receive) (sym none) in
    subst (λ (d' : DriverState). GoesTo up (driver_in d a) (driver_in d' (with_tail (next_receive d) a)) (driver_did [] []) nothing) driver
    (subst (λ (b : World). GoesTo up (driver_in d a) (driver_in d b) (driver_did [] []) nothing) (ap (λ (tail : ℕ). with_tail tail a) last)
    (goes-stays d a ready))
goes-offers {up} (m ∷ numbers) d a staged ready =
    let d1 = with_offered d (m ∷ []) numbers in
    let one = goes-offers_one d m numbers a staged ready in
    let rest = goes-offers numbers d1 (offering a) refl one.flows.ready in
    let both = goes_join d d1 (with_offered d1 numbers []) a (offering a)
    (with_tail (next_receive d1) (offering a)) [] [] [] [] nothing nothing one rest in
    let driver : with_offered d1 numbers []
    ≡ with_offered d (m ∷ numbers) [] = ap (λ (list : List ℕ). with_owners d list [] d.pool d.handed_out)
    (append_assoc d.buffers (m ∷ []) numbers) in
    let count : length (d.buffers ++ m ∷ []) + length numbers
    ≡ length d.buffers + length d.staged = omega (arith, length-append d.buffers (m ∷ []), ap length staged) in
    let next : next_receive d1 ≡ next_receive d = ap (place d.layout.rx d.oldest_receive) count in
    subst (λ (d' : DriverState). GoesTo up (driver_in d a) (driver_in d' (with_tail (next_receive d) a)) (driver_did [] []) nothing) driver
    (subst (λ (tail : ℕ). GoesTo up (driver_in d a) (driver_in (with_offered d1 numbers []) (with_tail tail a)) (driver_did [] []) nothing)
    next both)

pub staged_can_be_offered : StagedCanBeOffered
staged_can_be_offered up d a ready = goes-offers d.staged d a refl ready
