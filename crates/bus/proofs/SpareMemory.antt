-- Memory that no outstanding slot uses is apart from all areas that the conditions name, and remains so.
use Rattle.std.proofs.lemmas.Bool.{eqb-true}
use Rattle.std.proofs.Common.{refl, ◌≡◌, ◌≤◌, ◌++◌, [], Bool, true, false, cond, ℕ, List, Option, Some, None, map, arith}
use Rattle.std.specs.List.{All}
use Rattle.std.proofs.lemmas.List.Elements.{All-append, All-cons, All-map}
use Rattle.dma_memory.specs.Areas.{AreApart, Area, IsInside, area_at}
use Rattle.dma_memory.specs.AreaLaws.{apart-inside, apart-sym, inside-apart}
use Rattle.rx_engine.specs.Descriptors as receive
use Rattle.rx_engine.specs.declared.engine.Work.{Work}
use Rattle.adapter_model.specs.HostAreas.{areas, buffer_of, buffer_size, data_of, IsForeign, offered_buffers, receives, reported_half, ring_area}
use Rattle.adapter_model.specs.HostAreas.{status_byte, work_areas}
use Rattle.registers.specs.Bits.{HasBit}
use Rattle.registers.specs.Places.{rctl_en}
use Rattle.adapter_model.specs.Slots.{buffered, slots_in_work, offered, slot_of_work}
use Rattle.adapter_model.specs.HostFrames.{named}
use Rattle.adapter_model.specs.Conditions.{FitBuffers, Sound}
use Rattle.bus.specs.SpareMemory.{IsSpare}
use Rattle.adapter_model.specs.World.{receive_ring, transmit_ring, World}
use Rattle.bus.proofs.EachArea.{all-areas, of-areas}
use Rattle.bus.proofs.Lists.{all-head, all-left, all-none, all-right}
use Rattle.bus.proofs.DriversSlots.{parts-of}
use Rattle.bus.proofs.Rings.{dealt-left, dealt-right}

-- A spare area is apart from the areas that the conditions name.

work-apart : (memory : List ℕ) (work : Option Work) (size : ℕ) (area : Area)
    → All (λ d. AreApart (record { address = receive.named_address memory d; size = size }) area) (slot_of_work work)
    → All (λ place. place.size ≤ size) (work_areas memory work) → All (λ other. AreApart other area) (work_areas memory work)
work-apart memory None size area apart fit = all-none (λ other. AreApart other area)
work-apart memory (Some work) size area apart fit =
    let at = receive.named_address memory work.descriptor in
    let place : Area = record { address = at; size = work.length } in
    let whole : Area = record { address = at; size = size } in
    let brief : work.length ≤ size = all-head (λ (other : Area). other.size ≤ size) place [] fit in
    let inside : IsInside place whole = record { from = omega arith; to = omega (arith, brief) } in
    All-cons (λ other. AreApart other area) place []
    (apart-inside place whole area inside
    (all-head (λ d. AreApart (record { address = receive.named_address memory d; size = size }) area) work.descriptor [] apart))
    (all-none (λ other. AreApart other area))

name-apart : (memory : List ℕ) (size d : ℕ) (area : Area) → (named memory d).size ≤ size
    → AreApart (record { address = receive.named_address memory d; size = size }) area → AreApart (named memory d) area
name-apart memory size d area fit apart =
    let whole : Area = record { address = receive.named_address memory d; size = size } in
    let inside : IsInside (named memory d) whole = record { from = omega arith; to = omega (arith, fit) } in
    apart-inside (named memory d) whole area inside apart

offered-apart : (a : World) (size : ℕ) (area : Area) → (HasBit a.adapter.filter.rctl rctl_en → buffer_size a ≤ size)
    → All (λ d. AreApart (area_at (receive.named_address a.memory d) size) area) (offered (receive_ring a))
    → All (λ other. AreApart other area) (offered_buffers a)
offered-apart a size area large apart = by_case (receives a) refl
  where
    Away : Area → Type 0
    Away other = AreApart other area

    by_case : (on : Bool) → receives a ≡ on → All Away (cond on (map (buffer_of a) (offered (receive_ring a))) [])
    by_case true is =
        let small = large (eqb-true _ _ is) in
        All-map Away (buffer_of a) (offered (receive_ring a)) (λ k d below.
        apart-inside (buffer_of a _) (area_at (receive.named_address a.memory _) size) area
        (record { from = omega arith; to = omega (arith, small) }) (apart k d below))
    by_case false is = all-none Away

pub spare-apart : (size o p : ℕ) (a : World) (area : Area) → Sound o p a → FitBuffers size o a → IsSpare size o p a area
    → All (λ other. AreApart other area) (areas o a)
spare-apart size o p a area sound fit spare =
    let Away : ℕ → Type 0 = λ d. AreApart (area_at (receive.named_address a.memory d) size) area in
    let Near : ℕ → Type 0 = λ d. AreApart (data_of a.memory d) area in
    let work = a.adapter.receiver.work in
    let done = dealt-left a.memory (receive_ring a) o (slots_in_work a) Away sound.receive_slots spare.buffers in
    let behind = dealt-right a.memory (receive_ring a) o (slots_in_work a) Away sound.receive_slots spare.buffers in
    let sent = dealt-right a.memory (transmit_ring a) p (buffered a) Near sound.transmit_slots spare.sources in
    all-areas (λ other. AreApart other area) o a (record {
      received = spare.receive_slots;
      sent = spare.transmit_slots;
      payload = all-right Near (buffered a) (offered (transmit_ring a)) sent;
      names = λ k d below. name-apart a.memory size _ area (fit.finished_fit k d below) (done k d below);
      work = work-apart a.memory work size area (all-left Away (slots_in_work a) (offered (receive_ring a)) behind) fit.work_fits;
      buffers = offered-apart a size area fit.large (all-right Away (slots_in_work a) (offered (receive_ring a)) behind);
    })

pub spare-foreign : (size o p : ℕ) (a : World) (area : Area) → Sound o p a → FitBuffers size o a → IsSpare size o p a area
    → IsForeign a area
spare-foreign size o p a area sound fit spare =
    let parts = parts-of o p a sound in
    let r = ring_area (receive_ring a) in
    let t = ring_area (transmit_ring a) in
    let halves = map reported_half (slots_in_work a ++ offered (receive_ring a)) in
    let bytes = map status_byte (buffered a ++ offered (transmit_ring a)) in
    let buffers = (of-areas (λ other. AreApart other area) o a (spare-apart size o p a area sound fit spare)).buffers in
    All-append (AreApart area) halves (bytes ++ offered_buffers a)
    (λ k d below. inside-apart area _ r (parts.halves k d below) (apart-sym r area spare.receive_slots))
    (All-append (AreApart area) bytes (offered_buffers a)
    (λ k d below. inside-apart area _ t (parts.bytes k d below) (apart-sym t area spare.transmit_slots))
    (λ k d below. apart-sym _ area (buffers k d below)))
