-- Reading the frames that end in slots, and the frames to be sent.
use Rattle.std.proofs.Common.{◌≡◌, ◌≤◌, ◌<◌, ◌+◌, ◌++◌, [], ℕ, true, List, Some, length, map, refl, sym, ap, subst, ◌∙◌, arith}
use Rattle.std.proofs.lemmas.List.{append_assoc, length-append, length-map}
use Rattle.descriptors.specs.declared.ring.Ring.{Ring}
use Rattle.descriptors.specs.Ring.{address_of, offered_places}
use Rattle.rx_engine.specs.Held.{bytes_of_work, in_work}
use Rattle.rx_engine.specs.Pieces.{Piece, begun_from, frames_from, frames_of}
use Rattle.rx_engine.specs.declared.engine.Work.{Work}
use Rattle.tx_engine.specs.Transmitter.{Queued}
use Rattle.tx_engine.specs.Fetching.{frame_at}
use Rattle.tx_engine.specs.ToSend.{to_send}
use Rattle.rx_engine.specs.FinishedSlots.{finished_in}
use Rattle.rx_engine.specs.JoinedLaws.{alone-one, back-short, front-short}
use Rattle.rx_engine.specs.JoinedPieces.{AreShort, piece_alone}
use Rattle.rx_engine.specs.PieceLaws.{frames-append}
use Rattle.tx_engine.specs.QueuedFrames.{queued_in}
use Rattle.adapter_model.specs.HostFrames.{finished_pieces, frames_to_send, pieces_in_slots}
use Rattle.adapter_model.specs.Rings.{ring_of}
use Rattle.adapter_model.specs.State.{AdapterState}
use Rattle.adapter_model.specs.World.{World, receive_ring, transmit_ring}

-- The ring `read` is the world's receive ring, and no frame was begun before the finished slots.
pub record ReadsSlots (world : World) (read : Ring) (begun : List ℕ) : Type 0 where
  pub ring : read ≡ receive_ring world
  pub empty : begun ≡ []

pub reads-slots : (world : World) {state : AdapterState} {ring : Ring} {begun : List ℕ} → ring ≡ ring_of state.receive_ring
    → state ≡ world.adapter → begun ≡ [] → ReadsSlots world ring begun
reads-slots world is same none = record { ring = is ∙ ap (λ (a : AdapterState). ring_of a.receive_ring) same; empty = none }

-- `work` is the world's piece in progress, `bytes` are its bytes, and `later` is the frame that is begun in the finished slots.
pub record ReadsWork (oldest : ℕ) (world : World) (ring : Ring) (begun later bytes : List ℕ) (work : Work) : Type 0 where
  pub slots : ReadsSlots world ring begun
  pub after : later ≡ begun_from begun (finished_in world.memory ring oldest)
  pub has : world.adapter.receiver.work ≡ Some work
  pub read : bytes ≡ bytes_of_work world.memory work

pub reads-work : (oldest : ℕ) (world : World) {state : AdapterState} {ring : Ring} {begun later bytes : List ℕ} {work : Work}
    → ring ≡ ring_of state.receive_ring → state ≡ world.adapter → begun ≡ []
    → later ≡ begun_from begun (finished_in world.memory ring oldest) → Some work ≡ state.receiver.work
    → bytes ≡ bytes_of_work world.memory work → ReadsWork oldest world ring begun later bytes work
reads-work oldest world reads same none after is read = record {
  slots = reads-slots world reads same none;
  after = after;
  has = sym (is ∙ ap (λ (a : AdapterState). a.receiver.work) same);
  read = read;
}

same-pieces : (oldest : ℕ) (world : World) (ring : Ring) (begun : List ℕ) → ReadsSlots world ring begun
    → frames_from begun (finished_in world.memory ring oldest) ≡ frames_from [] (finished_pieces oldest world)
same-pieces oldest world ring begun reads =
    ap (λ (b : List ℕ). frames_from b (finished_in world.memory ring oldest)) reads.empty
    ∙ ap (λ (r : Ring). frames_from [] (finished_in world.memory r oldest)) reads.ring

same-begun : (oldest : ℕ) (world : World) (ring : Ring) (begun : List ℕ) → ReadsSlots world ring begun
    → begun_from begun (finished_in world.memory ring oldest) ≡ begun_from [] (finished_pieces oldest world)
same-begun oldest world ring begun reads =
    ap (λ (b : List ℕ). begun_from b (finished_in world.memory ring oldest)) reads.empty
    ∙ ap (λ (r : Ring). begun_from [] (finished_in world.memory r oldest)) reads.ring

pub finished-short : (oldest : ℕ) {world : World} {ring : Ring} {begun : List ℕ} → ReadsSlots world ring begun
    → AreShort [] (pieces_in_slots oldest world) → AreShort begun (finished_in world.memory ring oldest)
finished-short oldest {world} {begun = begun} reads short =
    subst (λ (r : Ring). AreShort begun (finished_in world.memory r oldest)) (sym reads.ring)
    (subst (λ (b : List ℕ). AreShort b (finished_pieces oldest world)) (sym reads.empty)
    (front-short [] (finished_pieces oldest world) (in_work world.memory world.adapter.receiver.work) short))

all-in-slots : (oldest : ℕ) (world : World) → frames_of (pieces_in_slots oldest world)
    ≡ frames_from [] (finished_pieces oldest world)
    ++ frames_from (begun_from [] (finished_pieces oldest world)) (in_work world.memory world.adapter.receiver.work)
all-in-slots oldest world = frames-append [] (finished_pieces oldest world) (in_work world.memory world.adapter.receiver.work)

pub finished-few : (oldest : ℕ) {world : World} {ring : Ring} {begun : List ℕ} → ReadsSlots world ring begun
    → length (frames_from begun (finished_in world.memory ring oldest)) ≤ length (frames_of (pieces_in_slots oldest world))
finished-few oldest {world} {ring} {begun} reads =
    let finished = frames_from [] (finished_pieces oldest world) in
    let last = frames_from (begun_from [] (finished_pieces oldest world)) (in_work world.memory world.adapter.receiver.work) in
    omega (arith, ap length (same-pieces oldest world ring begun reads), ap length (all-in-slots oldest world), length-append finished last)

work-is : {oldest : ℕ} {world : World} {ring : Ring} {begun later bytes : List ℕ} {work : Work}
    → ReadsWork oldest world ring begun later bytes work → piece_alone work.ends bytes ≡ in_work world.memory world.adapter.receiver.work
work-is {world = world} {work = work} reads = ap (piece_alone work.ends) reads.read ∙ sym (ap (in_work world.memory) reads.has)

begun-is : {oldest : ℕ} {world : World} {ring : Ring} {begun later bytes : List ℕ} {work : Work}
    → ReadsWork oldest world ring begun later bytes work → later ≡ begun_from [] (finished_pieces oldest world)
begun-is {oldest} {world} {ring} {begun} reads = reads.after ∙ same-begun oldest world ring begun reads.slots

pub work-short : {oldest : ℕ} {world : World} {ring : Ring} {begun later bytes : List ℕ} {work : Work}
    → ReadsWork oldest world ring begun later bytes work → AreShort [] (pieces_in_slots oldest world)
    → AreShort later (piece_alone work.ends bytes)
work-short {oldest} {world} {later = later} reads short =
    subst (λ (pieces : List Piece). AreShort later pieces) (sym (work-is reads))
    (subst (λ (b : List ℕ). AreShort b (in_work world.memory world.adapter.receiver.work)) (sym (begun-is reads))
    (back-short [] (finished_pieces oldest world) (in_work world.memory world.adapter.receiver.work) short))

pub with-work : {oldest : ℕ} {world : World} {ring : Ring} {begun later bytes : List ℕ} {work : Work} (old : List (List ℕ))
    {before after : List (List ℕ)} → ReadsWork oldest world ring begun later bytes work
    → before ≡ old ++ frames_from begun (finished_in world.memory ring oldest)
    → after ≡ before ++ frames_from later (piece_alone work.ends bytes)
    → after ≡ old ++ frames_of (pieces_in_slots oldest world)
with-work {oldest} {world} {ring} {begun} {later} {bytes} {work} old reads first last =
    let finished = frames_from [] (finished_pieces oldest world) in
    let pieces = in_work world.memory world.adapter.receiver.work in
    let rest = frames_from (begun_from [] (finished_pieces oldest world)) pieces in
    last
    ∙ ap (λ (frames : List (List ℕ)). frames ++ frames_from later (piece_alone work.ends bytes))
    (first ∙ ap (λ (frames : List (List ℕ)). old ++ frames) (same-pieces oldest world ring begun reads.slots))
    ∙ ap (λ (list : List Piece). (old ++ finished) ++ frames_from later list) (work-is reads)
    ∙ ap (λ (b : List ℕ). (old ++ finished) ++ frames_from b pieces) (begun-is reads)
    ∙ append_assoc old finished rest
    ∙ ap (λ (frames : List (List ℕ)). old ++ frames) (sym (all-in-slots oldest world))

pub work-room : {oldest : ℕ} {world : World} {ring : Ring} {begun later bytes : List ℕ} {work : Work} (old : List (List ℕ))
    {before : List (List ℕ)} (most : ℕ) → ReadsWork oldest world ring begun later bytes work
    → before ≡ old ++ frames_from begun (finished_in world.memory ring oldest) → work.ends ≡ true
    → length old + length (frames_of (pieces_in_slots oldest world)) ≤ most → length before < most
work-room {oldest} {world} {later = later} {bytes} {work} old {before} most reads first ends room =
    let last = frames_from later (piece_alone work.ends bytes) in
    let all : before ++ last ≡ old ++ frames_of (pieces_in_slots oldest world) = with-work old reads first refl in
    omega (
      arith,
      ap length all,
      length-append before last,
      alone-one later bytes work.ends ends,
      length-append old (frames_of (pieces_in_slots oldest world)),
      room,
    )

pub sending-is : (world : World) → frames_to_send world
    ≡ map (λ (q : Queued). q.frame) world.adapter.transmitter.buffer ++ queued_in true world.memory (transmit_ring world)
unfolding to_send
sending-is world = refl

pub sending-count : (world : World) → length (frames_to_send world)
    ≡ length world.adapter.transmitter.buffer + length (offered_places (transmit_ring world))
sending-count world =
    let buffer = world.adapter.transmitter.buffer in
    let frames = map (λ (q : Queued). q.frame) buffer in
    let queued = queued_in true world.memory (transmit_ring world) in
    omega (
      arith,
      ap length (sending-is world),
      length-append frames queued,
      length-map buffer (λ (q : Queued). q.frame),
      length-map (offered_places (transmit_ring world)) (λ (slot : ℕ). frame_at true world.memory (address_of (transmit_ring world) slot)),
    )
