-- What doesn't change of both rings if one area of memory is written.
use Rattle.std.proofs.Common.{◌≡◌, ◌≤◌, ◌++◌, ◌∷◌, [], true, ℕ, List, Option, Some, None, map, slice_index, refl, sym, ap, subst, ◌∙◌}
use Rattle.std.specs.List.{All}
use Rattle.dma_memory.specs.Areas.{AreApart, Area, ChangesOnly, bytes_in, descriptor_area}
use Rattle.dma_memory.specs.AreaLaws.{inside-apart}
use Rattle.registers.specs.Bits.{is_set}
use Rattle.dma_memory.specs.HostMemory.{bytes_at}
use Rattle.descriptors.specs.declared.ring.Ring.{Ring}
use Rattle.descriptors.specs.declared.tx_desc.TxDesc.{TxDesc}
use Rattle.descriptors.specs.Ring.{address_of, offered_places}
use Rattle.descriptors.specs.RxDesc.{rx_desc_of}
use Rattle.descriptors.specs.RxStatus.{eop, status_bits}
use Rattle.descriptors.specs.declared.rx_desc.RxDesc.{RxDesc}
use Rattle.descriptors.specs.TxDesc.{tx_desc_of}
use Rattle.descriptors.specs.TxFields.{command_bits}
use Rattle.rx_engine.specs.Descriptors as receive
use Rattle.rx_engine.specs.Held as engine
use Rattle.rx_engine.specs.Held.{HasBegun, piece_of}
use Rattle.rx_engine.specs.Pieces.{Piece, begun_of, frames_of}
use Rattle.rx_engine.specs.declared.engine.Work.{Work}
use Rattle.tx_engine.specs.Fetching as transmit
use Rattle.tx_engine.specs.Fetching.{as_sent, fetched, frame_at}
use Rattle.tx_engine.specs.ToSend.{to_send}
use Rattle.tx_engine.specs.Transmitter.{Queued}
use Rattle.adapter_model.specs.Slots.{buffered, done_slots, finished, slots_in_work, is_done}
use Rattle.adapter_model.specs.Slots.{IsDealt, offered, outstanding, slot_of_work, written_back_slots}
use Rattle.adapter_model.specs.HostAreas.{data_of, ring_area, work_areas}
use Rattle.adapter_model.specs.HostFrames.{finished_pieces, frames_held, frames_to_send, named, piece_in, pieces_in_slots}
use Rattle.adapter_model.specs.Conditions.{AreCut, FitBuffers}
use Rattle.adapter_model.specs.World.{receive_ring, transmit_ring, World}
use Rattle.bus.proofs.KeptPieces.{SameDescriptors, cut-kept}
use Rattle.bus.proofs.Lists.{all-head, all-left, all-right, all-unmapped, map-same}
use Rattle.bus.proofs.Rings.{dealt-left, dealt-right, dealt-same, done-same, outstanding-inside}

-- One descriptor.

-- the descriptor's sixteen bytes are the same in both memories
abbrev pub IsSame : List ℕ → List ℕ → ℕ → Type 0
IsSame memory memory' descriptor = bytes_at memory' descriptor 16 ≡ bytes_at memory descriptor 16

pub is_done-same : (memory memory' : List ℕ) (descriptor : ℕ) → IsSame memory memory' descriptor
    → is_done memory' descriptor ≡ is_done memory descriptor
is_done-same memory memory' descriptor same = ap (λ (bytes : List ℕ). is_set (slice_index bytes 12) 0) same

pub named-same : (memory memory' : List ℕ) (descriptor : ℕ) → IsSame memory memory' descriptor
    → named memory' descriptor ≡ named memory descriptor
named-same memory memory' descriptor same =
    ap (λ (bytes : List ℕ). let area : Area = record { address = (rx_desc_of bytes).address; size = (rx_desc_of bytes).length } in area)
    same

pub frame-same : (memory memory' : List ℕ) (area : Area) (descriptor : ℕ) → ChangesOnly memory memory' area
    → IsSame memory memory' descriptor → AreApart area (named memory descriptor)
    → bytes_in memory' (named memory' descriptor) ≡ bytes_in memory (named memory descriptor)
frame-same memory memory' area descriptor keeps same apart =
    ap (bytes_in memory') (named-same memory memory' descriptor same) ∙ keeps.others (named memory descriptor) apart

pub piece-same : (memory memory' : List ℕ) (area : Area) (descriptor : ℕ) → ChangesOnly memory memory' area
    → IsSame memory memory' descriptor → AreApart area (named memory descriptor) → piece_in memory' descriptor ≡ piece_in memory descriptor
piece-same memory memory' area descriptor keeps same apart =
    let desc : receive.descriptor_at memory' descriptor ≡ receive.descriptor_at memory descriptor = ap rx_desc_of same in
    ap (λ (d : RxDesc). piece_of (is_set (status_bits d.status) eop) (bytes_in memory' (named memory' descriptor))) desc
    ∙ ap (piece_of (is_set (status_bits (receive.descriptor_at memory descriptor).status) eop))
    (frame-same memory memory' area descriptor keeps same apart)

pub fetched-same : (memory memory' : List ℕ) (area : Area) (descriptor : ℕ) → ChangesOnly memory memory' area
    → IsSame memory memory' descriptor → AreApart area (data_of memory descriptor)
    → fetched true memory' descriptor ≡ fetched true memory descriptor
fetched-same memory memory' area descriptor keeps same apart =
    let desc : TxDesc = transmit.transmit_descriptor_at memory descriptor in
    let desc_same : transmit.transmit_descriptor_at memory' descriptor ≡ desc = ap tx_desc_of same in
    ap (λ (d : TxDesc). let queued : Queued = record
    { frame = as_sent true (bytes_at memory' d.address d.length); descriptor = descriptor; rs = is_set (command_bits d.command) 3 }
    in queued) desc_same
    ∙ ap (λ (bytes : List ℕ). let queued : Queued = record
    { frame = as_sent true bytes; descriptor = descriptor; rs = is_set (command_bits desc.command) 3 } in queued)
    (keeps.others (data_of memory descriptor) apart)

-- Lists of descriptors.

pub same-apart : (memory memory' : List ℕ) (area : Area) (slots : List ℕ) → ChangesOnly memory memory' area
    → All (λ d. AreApart area (descriptor_area d)) slots → All (IsSame memory memory') slots
same-apart memory memory' area slots keeps apart = λ k d below. keeps.others _ (apart k d below)

pub same-outstanding : (memory memory' : List ℕ) (area : Area) (ring : Ring) (oldest : ℕ) (taken : List ℕ) → ChangesOnly memory memory' area
    → AreApart area (ring_area ring) → IsDealt memory ring oldest taken → All (IsSame memory memory') (outstanding ring oldest)
same-outstanding memory memory' area ring oldest taken keeps apart dealt =
    let inside = outstanding-inside ring oldest dealt.slot in
    λ k d below. keeps.others _ (inside-apart area _ (ring_area ring) (inside k d below) apart)

pub named-kept : (memory memory' : List ℕ) (slots : List ℕ) → All (IsSame memory memory') slots
    → map (named memory') slots ≡ map (named memory) slots
named-kept memory memory' slots same = map-same (named memory') (named memory) slots
    (λ k d below. named-same memory memory' _ (same k d below))

pub pieces-kept : (memory memory' : List ℕ) (area : Area) (slots : List ℕ) → ChangesOnly memory memory' area
    → All (IsSame memory memory') slots → All (AreApart area) (map (named memory) slots)
    → map (piece_in memory') slots ≡ map (piece_in memory) slots
pieces-kept memory memory' area slots keeps same apart =
    let each = all-unmapped (AreApart area) (named memory) slots apart in
    map-same (piece_in memory') (piece_in memory) slots
    (λ k d below. piece-same memory memory' area _ keeps (same k d below) (each k d below))

pub descriptors-kept : (memory memory' : List ℕ) (slots : List ℕ) → All (IsSame memory memory') slots → SameDescriptors memory memory' slots
descriptors-kept memory memory' slots same = λ k d below. ap rx_desc_of (same k d below)

-- the pieces that these finished slots name have at most this number of bytes
abbrev pub NamesFit : List ℕ → ℕ → List ℕ → Type 0
NamesFit memory size slots = All (λ slot. (named memory slot).size ≤ size) slots

pub names_fit-kept : (memory memory' : List ℕ) (size : ℕ) (slots : List ℕ) → All (IsSame memory memory') slots → NamesFit memory size slots
    → NamesFit memory' size slots
names_fit-kept memory memory' size slots same fit = λ k d below.
    subst (λ (area : Area). area.size ≤ size) (sym (named-same memory memory' _ (same k d below))) (fit k d below)

pub work-kept : (memory memory' : List ℕ) (work : Option Work) → All (IsSame memory memory') (slot_of_work work)
    → work_areas memory' work ≡ work_areas memory work
work-kept memory memory' None same = refl
work-kept memory memory' (Some work) same =
    let address : receive.named_address memory' work.descriptor ≡ receive.named_address memory work.descriptor =
    ap (λ (bytes : List ℕ). (rx_desc_of bytes).address) (all-head (IsSame memory memory') work.descriptor [] same) in
    ap (λ (at : ℕ). let area : Area = record { address = at; size = work.length } in area ∷ []) address

pub work_piece-kept : (memory memory' : List ℕ) (area : Area) (work : Option Work) → ChangesOnly memory memory' area
    → All (IsSame memory memory') (slot_of_work work) → All (AreApart area) (work_areas memory work)
    → engine.in_work memory' work ≡ engine.in_work memory work
work_piece-kept memory memory' area None keeps same apart = refl
work_piece-kept memory memory' area (Some work) keeps same apart =
    let address : receive.named_address memory' work.descriptor ≡ receive.named_address memory work.descriptor =
    ap (λ (bytes : List ℕ). (rx_desc_of bytes).address) (all-head (IsSame memory memory') work.descriptor [] same) in
    let place : Area = record { address = receive.named_address memory work.descriptor; size = work.length } in
    ap (λ (at : ℕ). piece_of work.ends (bytes_at memory' at work.length) ∷ []) address
    ∙ ap (λ (bytes : List ℕ). piece_of work.ends bytes ∷ []) (keeps.others place (all-head (AreApart area) place [] apart))

-- a buffer of this size that a receive descriptor names
abbrev pub sized_buffer : List ℕ → ℕ → ℕ → Area
sized_buffer memory size descriptor = record { address = receive.named_address memory descriptor; size = size }

pub buffers-kept : (memory memory' : List ℕ) (size : ℕ) (slots : List ℕ) → All (IsSame memory memory') slots
    → map (sized_buffer memory' size) slots ≡ map (sized_buffer memory size) slots
buffers-kept memory memory' size slots same =
    map-same (sized_buffer memory' size) (sized_buffer memory size) slots
    (λ k d below. ap (λ (bytes : List ℕ). let area : Area = record { address = (rx_desc_of bytes).address; size = size } in area)
    (same k d below))

pub data-kept : (memory memory' : List ℕ) (slots : List ℕ) → All (IsSame memory memory') slots
    → map (data_of memory') slots ≡ map (data_of memory) slots
data-kept memory memory' slots same =
    map-same (data_of memory') (data_of memory) slots
    (λ k d below. ap (λ (bytes : List ℕ). let area : Area = record
    { address = (tx_desc_of bytes).address; size = (tx_desc_of bytes).length } in area) (same k d below))

pub fetched-kept : (memory memory' : List ℕ) (area : Area) (slots : List ℕ) → ChangesOnly memory memory' area
    → All (IsSame memory memory') slots → All (AreApart area) (map (data_of memory) slots)
    → All (λ d. fetched true memory' d ≡ fetched true memory d) slots
fetched-kept memory memory' area slots keeps same apart =
    let each = all-unmapped (AreApart area) (data_of memory) slots apart in
    λ k d below. fetched-same memory memory' area _ keeps (same k d below) (each k d below)

pub to_send-kept : (memory memory' : List ℕ) (ring : Ring) (buffer : List Queued)
    → All (λ d. fetched true memory' d ≡ fetched true memory d) (offered ring)
    → to_send memory' ring true buffer ≡ to_send memory ring true buffer
unfolding to_send
to_send-kept memory memory' ring buffer same =
    let each = all-unmapped (λ d. fetched true memory' d ≡ fetched true memory d) (address_of ring) (offered_places ring) same in
    ap (λ (frames : List (List ℕ)). map (λ (queued : Queued). queued.frame) buffer ++ frames)
    (map-same (λ (slot : ℕ). frame_at true memory' (address_of ring slot)) (λ (slot : ℕ). frame_at true memory (address_of ring slot))
    (offered_places ring)
    (λ k d below. ap (λ (queued : Queued). queued.frame) (each k d below)))

-- What doesn't change on the transmit side if the written area is apart from the transmit ring and its data.

pub record TransmitKept (world : World) (memory' : List ℕ) (oldest : ℕ) : Type 0 where
  pub same_offered : All (IsSame world.memory memory') (offered (transmit_ring world))
  pub dealt : IsDealt memory' (transmit_ring world) oldest (buffered world)
  pub done : done_slots memory' (transmit_ring world) oldest ≡ written_back_slots oldest world
  pub sends : to_send memory' (transmit_ring world) true world.adapter.transmitter.buffer ≡ frames_to_send world
  pub data_areas : map (data_of memory') (offered (transmit_ring world)) ≡ map (data_of world.memory) (offered (transmit_ring world))
  pub fetches : map (fetched true memory') (offered (transmit_ring world)) ≡ map (fetched true world.memory) (offered (transmit_ring world))

pub transmit_kept_by_slots : (world : World) (memory' : List ℕ) (oldest : ℕ) (area : Area) → ChangesOnly world.memory memory' area
    → IsDealt world.memory (transmit_ring world) oldest (buffered world)
    → All (IsSame world.memory memory') (outstanding (transmit_ring world) oldest)
    → All (AreApart area) (map (data_of world.memory) (offered (transmit_ring world))) → TransmitKept world memory' oldest
transmit_kept_by_slots world memory' oldest area keeps dealt same data_apart =
    let memory = world.memory in
    let ring = transmit_ring world in
    let done_as : All (λ d. is_done memory' d ≡ is_done memory d) (outstanding ring oldest) = λ k d below. is_done-same memory memory' _
    (same k d below) in
    let same_offered = all-right (IsSame memory memory') (buffered world) (offered ring)
    (dealt-right memory ring oldest (buffered world) (IsSame memory memory') dealt same) in
    let fetches = fetched-kept memory memory' area (offered ring) keeps same_offered data_apart in
    record {
      same_offered = same_offered;
      dealt = dealt-same memory memory' ring oldest (buffered world) done_as dealt;
      done = done-same memory memory' ring oldest done_as;
      sends = to_send-kept memory memory' ring world.adapter.transmitter.buffer fetches;
      data_areas = data-kept memory memory' (offered ring) same_offered;
      fetches = map-same (fetched true memory') (fetched true memory) (offered ring) fetches;
    }

pub transmit_kept : (world : World) (memory' : List ℕ) (oldest : ℕ) (area : Area) → ChangesOnly world.memory memory' area
    → IsDealt world.memory (transmit_ring world) oldest (buffered world) → AreApart area (ring_area (transmit_ring world))
    → All (AreApart area) (map (data_of world.memory) (offered (transmit_ring world))) → TransmitKept world memory' oldest
transmit_kept world memory' oldest area keeps dealt apart data_apart =
    transmit_kept_by_slots world memory' oldest area keeps dealt
    (same-outstanding world.memory memory' area (transmit_ring world) oldest (buffered world) keeps apart dealt) data_apart

-- Let the written area be apart from the receive ring, and from the bytes of finished slots and of the piece in progress. Then these facts
-- hold of the receive side.

pub record ReceiveKept (world : World) (memory' : List ℕ) (oldest : ℕ) : Type 0 where
  pub same_offered : All (IsSame world.memory memory') (offered (receive_ring world))
  pub dealt : IsDealt memory' (receive_ring world) oldest (slots_in_work world)
  pub done : done_slots memory' (receive_ring world) oldest ≡ finished oldest world
  pub named_areas : map (named memory') (done_slots memory' (receive_ring world) oldest) ≡ map (named world.memory) (finished oldest world)
  pub descriptors : SameDescriptors world.memory memory' (finished oldest world)
  pub pieces : finished_pieces oldest (record world { memory = memory' }) ≡ finished_pieces oldest world
  pub all_pieces : pieces_in_slots oldest (record world { memory = memory' }) ≡ pieces_in_slots oldest world
  pub held : frames_held oldest (record world { memory = memory' }) ≡ frames_held oldest world
  pub begun : HasBegun world.memory (finished_pieces oldest world) world.adapter.receiver
      → HasBegun memory' (finished_pieces oldest (record world { memory = memory' })) world.adapter.receiver
  pub whole : (size : ℕ) → AreCut size oldest world → AreCut size oldest (record world { memory = memory' })
  pub fits : (size : ℕ) → FitBuffers size oldest world → FitBuffers size oldest (record world { memory = memory' })
  pub areas_of_work : work_areas memory' world.adapter.receiver.work ≡ work_areas world.memory world.adapter.receiver.work

pub receive_kept_by_slots : (world : World) (memory' : List ℕ) (oldest : ℕ) (area : Area) → ChangesOnly world.memory memory' area
    → IsDealt world.memory (receive_ring world) oldest (slots_in_work world)
    → All (IsSame world.memory memory') (outstanding (receive_ring world) oldest)
    → All (AreApart area) (map (named world.memory) (finished oldest world))
    → All (AreApart area) (work_areas world.memory world.adapter.receiver.work) → ReceiveKept world memory' oldest
receive_kept_by_slots world memory' oldest area keeps dealt same named_apart work_apart =
    let memory = world.memory in
    let ring = receive_ring world in
    let work = world.adapter.receiver.work in
    let done_as : All (λ d. is_done memory' d ≡ is_done memory d) (outstanding ring oldest) = λ k d below. is_done-same memory memory' _
    (same k d below) in
    let right = dealt-right memory ring oldest (slots_in_work world) (IsSame memory memory') dealt same in
    let same_done = dealt-left memory ring oldest (slots_in_work world) (IsSame memory memory') dealt same in
    let same_work = all-left (IsSame memory memory') (slots_in_work world) (offered ring) right in
    let done : done_slots memory' ring oldest ≡ finished oldest world = done-same memory memory' ring oldest done_as in
    let areas_of_work = work-kept memory memory' work same_work in
    let descriptors = descriptors-kept memory memory' (finished oldest world) same_done in
    let pieces : finished_pieces oldest (record world { memory = memory' }) ≡ finished_pieces oldest world =
    ap (map (piece_in memory')) done ∙ pieces-kept memory memory' area (finished oldest world) keeps same_done named_apart in
    let all_pieces : pieces_in_slots oldest (record world { memory = memory' }) ≡ pieces_in_slots oldest world =
    ap (λ (list : List Piece). list ++ engine.in_work memory' work) pieces
    ∙ ap (λ (list : List Piece). finished_pieces oldest world ++ list)
    (work_piece-kept memory memory' area work keeps same_work work_apart) in
    record {
      same_offered = all-right (IsSame memory memory') (slots_in_work world) (offered ring) right;
      dealt = dealt-same memory memory' ring oldest (slots_in_work world) done_as dealt;
      done = done;
      named_areas = ap (map (named memory')) done ∙ named-kept memory memory' (finished oldest world) same_done;
      descriptors = descriptors;
      pieces = pieces;
      all_pieces = all_pieces;
      held = ap (λ (list : List Piece). frames_of list ++ world.adapter.receiver.buffer) all_pieces;
      begun = λ begun. ap begun_of all_pieces ∙ begun;
      whole = λ size cut. cut-kept size oldest world (record world { memory = memory' }) cut.sized done descriptors all_pieces cut;
      fits = λ size fit. record {
        large = fit.large;
        finished_fit = subst (λ (slots : List ℕ). NamesFit memory' size slots) (sym done)
            (names_fit-kept memory memory' size (finished oldest world) same_done fit.finished_fit);
        work_fits = subst (λ (places : List Area). All (λ place. place.size ≤ size) places) (sym areas_of_work) fit.work_fits;
      };
      areas_of_work = areas_of_work;
    }

pub receive_kept : (world : World) (memory' : List ℕ) (oldest : ℕ) (area : Area) → ChangesOnly world.memory memory' area
    → IsDealt world.memory (receive_ring world) oldest (slots_in_work world) → AreApart area (ring_area (receive_ring world))
    → All (AreApart area) (map (named world.memory) (finished oldest world))
    → All (AreApart area) (work_areas world.memory world.adapter.receiver.work) → ReceiveKept world memory' oldest
receive_kept world memory' oldest area keeps dealt apart named_apart work_apart =
    receive_kept_by_slots world memory' oldest area keeps dealt
    (same-outstanding world.memory memory' area (receive_ring world) oldest (slots_in_work world) keeps apart dealt) named_apart work_apart
