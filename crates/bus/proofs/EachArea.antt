-- A fact of all areas that the conditions of the law name, part by part.
use Rattle.std.proofs.Common.{◌++◌, ◌∷◌, ℕ, map}
use Rattle.std.specs.List.{All}
use Rattle.std.proofs.lemmas.List.Elements.{All-append, All-cons, All-map}
use Rattle.dma_memory.specs.Areas.{Area}
use Rattle.adapter_model.specs.HostAreas.{areas, data_of, frame_areas, offered_buffers, ring_area, work_areas}
use Rattle.adapter_model.specs.Slots.{finished, offered}
use Rattle.adapter_model.specs.HostFrames.{named}
use Rattle.adapter_model.specs.World.{receive_ring, transmit_ring, World}
use Rattle.bus.proofs.Lists.{all-head, all-left, all-right, all-tail, all-unmapped}

pub record OfAreas (P : Area → Type 0) (o : ℕ) (a : World) : Type 0 where
  pub received : P (ring_area (receive_ring a))
  pub sent : P (ring_area (transmit_ring a))
  pub payload : All (λ d. P (data_of a.memory d)) (offered (transmit_ring a))
  pub names : All (λ d. P (named a.memory d)) (finished o a)
  pub work : All P (work_areas a.memory a.adapter.receiver.work)
  pub buffers : All P (offered_buffers a)

pub of-areas : (P : Area → Type 0) (o : ℕ) (a : World) → All P (areas o a) → OfAreas P o a
of-areas P o a all =
    let r = ring_area (receive_ring a) in
    let t = ring_area (transmit_ring a) in
    let payload = map (data_of a.memory) (offered (transmit_ring a)) in
    let names = map (named a.memory) (finished o a) in
    let work = work_areas a.memory a.adapter.receiver.work in
    let behind_r = all-tail P r (t ∷ frame_areas o a) all in
    let frames = all-tail P t (frame_areas o a) behind_r in
    let behind_payload = all-right P payload (names ++ (work ++ offered_buffers a)) frames in
    let behind_names = all-right P names (work ++ offered_buffers a) behind_payload in
    record {
      received = all-head P r (t ∷ frame_areas o a) all;
      sent = all-head P t (frame_areas o a) behind_r;
      payload = all-unmapped P (data_of a.memory) (offered (transmit_ring a))
          (all-left P payload (names ++ (work ++ offered_buffers a)) frames);
      names = all-unmapped P (named a.memory) (finished o a) (all-left P names (work ++ offered_buffers a) behind_payload);
      work = all-left P work (offered_buffers a) behind_names;
      buffers = all-right P work (offered_buffers a) behind_names;
    }

pub all-areas : (P : Area → Type 0) (o : ℕ) (a : World) → OfAreas P o a → All P (areas o a)
all-areas P o a each =
    let r = ring_area (receive_ring a) in
    let t = ring_area (transmit_ring a) in
    let payload = map (data_of a.memory) (offered (transmit_ring a)) in
    let names = map (named a.memory) (finished o a) in
    let work = work_areas a.memory a.adapter.receiver.work in
    All-cons P r (t ∷ frame_areas o a) each.received
    (All-cons P t (frame_areas o a) each.sent
    (All-append P payload (names ++ (work ++ offered_buffers a)) (All-map P (data_of a.memory) (offered (transmit_ring a)) each.payload)
    (All-append P names (work ++ offered_buffers a) (All-map P (named a.memory) (finished o a) each.names)
    (All-append P work (offered_buffers a) each.work each.buffers))))
