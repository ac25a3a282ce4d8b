-- A driver's store to its own memory.
use Rattle.std.proofs.Common.{◌≡◌, ◌++◌, [], ℕ, List, length, map, cond, sym, ap, subst}
use Rattle.std.specs.List.{All}
use Rattle.dma_memory.specs.Areas.{AreApart, Area, ChangesOnly}
use Rattle.dma_memory.specs.AreaLaws.{changes_only_stored}
use Rattle.dma_memory.specs.HostMemory.{LiesIn, with_bytes}
use Rattle.dma_memory.specs.Laws.{length-with_bytes}
use Rattle.tx_engine.specs.Transmitter.{Queued}
use Rattle.adapter_model.specs.HostAreas.{areas, buffer_of, data_of, offered_buffers, receives, reported_half, ring_area, status_byte, work_areas}
use Rattle.adapter_model.specs.Slots.{buffered, finished, slots_in_work, offered, outstanding}
use Rattle.adapter_model.specs.HostFrames.{named}
use Rattle.adapter_model.specs.Conditions.{Reports, Sound}
use Rattle.bus.specs.DriversStores.{IsDriversArea, DriversStoresLeaveForeign, DriversStoresLeaveFrames}
use Rattle.adapter_model.specs.World.{receive_ring, transmit_ring, World, world_after_store}
use Rattle.bus.proofs.Areas.{separate-same}
use Rattle.bus.proofs.WrittenAreas.{IsSame, buffers-kept, receive_kept_by_slots, same-apart, transmit_kept_by_slots}
use Rattle.bus.proofs.Lists.{all-left, all-right}
use Rattle.bus.proofs.TxPutSteps.{areas-same}
use Rattle.bus.proofs.RunningEngines.{still_run, transmittable-kept}
use Rattle.bus.proofs.Rings.{dealt-right}

buffers-stay : (o p : ℕ) (a : World) (address : ℕ) (bytes : List ℕ) → Sound o p a → LiesIn a.memory address (length bytes)
    → IsDriversArea o p a (record { address = address; size = length bytes })
    → offered_buffers (world_after_store address bytes a) ≡ offered_buffers a
buffers-stay o p a address bytes sound lies own =
    let memory = a.memory in
    let memory' = with_bytes memory address bytes in
    let ring = receive_ring a in
    let keeps : ChangesOnly memory memory' (record { address = address; size = length bytes }) = changes_only_stored memory bytes address
    lies in
    let received : All (IsSame memory memory') (outstanding ring o) = same-apart memory memory'
    (record { address = address; size = length bytes }) (outstanding ring o) keeps own.received in
    let same : All (IsSame memory memory') (offered ring) = all-right (IsSame memory memory') (slots_in_work a) (offered ring)
    (dealt-right memory ring o (slots_in_work a) (IsSame memory memory') sound.receive_slots received) in
    ap (λ (there : List Area). cond (receives a) there []) (buffers-kept memory memory' (buffer_of a 0).size (offered ring) same)

pub drivers_stores_leave_frames : DriversStoresLeaveFrames
drivers_stores_leave_frames o p a address bytes sound lies own =
    let memory = a.memory in
    let memory' = with_bytes memory address bytes in
    let b = world_after_store address bytes a in
    let area : Area = record { address = address; size = length bytes } in
    let size : length memory' ≡ length memory = length-with_bytes memory bytes address lies in
    let keeps : ChangesOnly memory memory' area = changes_only_stored memory bytes address lies in
    let payload = map (data_of memory) (offered (transmit_ring a)) in
    let names = map (named memory) (finished o a) in
    let work = work_areas memory a.adapter.receiver.work in
    let held_apart = all-right (AreApart area) payload (names ++ (work ++ offered_buffers a)) own.frames in
    let names_apart = all-left (AreApart area) names (work ++ offered_buffers a) held_apart in
    let work_apart = all-left (AreApart area) work (offered_buffers a)
    (all-right (AreApart area) names (work ++ offered_buffers a) held_apart) in
    let received : All (IsSame memory memory') (outstanding (receive_ring a) o) = same-apart memory memory' area
    (outstanding (receive_ring a) o) keeps own.received in
    let sent : All (IsSame memory memory') (outstanding (transmit_ring a) p) = same-apart memory memory' area
    (outstanding (transmit_ring a) p) keeps own.sent in
    let receiving = receive_kept_by_slots a memory' o area keeps sound.receive_slots received names_apart work_apart in
    let transmitting = transmit_kept_by_slots a memory' p area keeps sound.transmit_slots sent
    (all-left (AreApart area) payload (names ++ (work ++ offered_buffers a)) own.frames) in
    let buffers = buffers-stay o p a address bytes sound lies own in
    record {
      same = record {
        sound = record {
          receive_slots = receiving.dealt;
          transmit_slots = transmitting.dealt;
          separate =
              separate-same memory memory' (areas o a) (areas o b) size
              (areas-same (ring_area (receive_ring a)) (ring_area (transmit_ring a)) _ _ _ _ _ _ _ _ transmitting.data_areas
              receiving.named_areas receiving.areas_of_work buffers)
              sound.separate;
          reports = subst (λ (queue : List Queued). All Reports (a.adapter.transmitter.buffer ++ queue))
              (sym transmitting.fetches) sound.reports;
          begun = receiving.begun sound.begun;
          pads = sound.pads;
        };
        held = receiving.held;
        to_send = transmitting.sends;
        finished_same = receiving.done;
        written_same = transmitting.done;
        pieces_same = receiving.pieces;
        whole = λ size sized. receiving.whole size;
        fits = λ size large. receiving.fits size;
      };
      runs = λ can. still_run a b can.receive_indices can.not_extended
          (transmittable-kept memory memory' (offered (transmit_ring a)) size transmitting.same_offered can.transmittable) can;
    }

pub drivers_stores_leave_foreign : DriversStoresLeaveForeign
drivers_stores_leave_foreign o p a address bytes sound lies own area foreign =
    subst (λ (buffers : List Area). All (AreApart area) (map reported_half (slots_in_work a ++ offered (receive_ring a))
    ++ (map status_byte (buffered a ++ offered (transmit_ring a)) ++ buffers)))
    (sym (buffers-stay o p a address bytes sound lies own)) foreign
