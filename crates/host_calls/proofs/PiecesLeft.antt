-- The pieces of frames, counted.
use Rattle.std.proofs.Common.{◌≡◌, ◌≢◌, ◌≤◌, ◌<◌, ◌+◌, ◌-◌, ◌*◌, ◌++◌, ◌∷◌, []}
use Rattle.std.proofs.Common.{ℕ, suc, Bool, true, false, if◌then◌else◌}
use Rattle.std.proofs.Common.{List, Option, Some, None, drop, length, length-append, take, refl, sym, ap, ◌∙◌, arith}
use Rattle.std.specs.List.{All}
use Rattle.std.proofs.lemmas.List.{length-take}
use Rattle.std.proofs.lemmas.List.Sums.{sum_by-append, sum_by-cons}
use Rattle.descriptors.specs.Frames.{IsLegal}
use Rattle.dma_memory.specs.Layout.{receive_buffer_bytes}
use Rattle.rx_engine.specs.Held.{bytes_of_work, in_work as pieces_in_work, piece_of}
use Rattle.rx_engine.specs.PieceLaws.{begun-append, frames-append}
use Rattle.rx_engine.specs.Pieces.{IsCut, Piece, begun_of, frames_from, frames_of, parts}
use Rattle.rx_engine.specs.Pieces.Piece.{Last, Part}
use Rattle.rx_engine.specs.Receiver.{oldest}
use Rattle.rx_engine.specs.declared.engine.Work.{Work}
use Rattle.adapter.specs.HostFrames.{finished_pieces, frames_held}
use Rattle.adapter.specs.Receiving.{is_ending}
use Rattle.adapter.specs.Slots.{slot_of_work}
use Rattle.adapter.specs.World.{World}
use Rattle.adapter.proofs.Lists.{all-head, all-right, all-tail}
use Rattle.driver.specs.Parts.{AreFrames, IsWholeFrame}
use Rattle.driver.specs.declared.receiver.Received.{Received}
use Rattle.adapter.proofs.TakenSlots.{parts_are_few}
use Rattle.adapter.specs.DriverState.{DriverState}
use Rattle.adapter.specs.ReadyDrivers.{Ready}
use Rattle.host_calls.specs.DrainedHosts.{buffers_for, count_left, count_pieces, count_queued_pieces, pieces_left}
use Rattle.host_calls.specs.DrainSteps.{count_pending}

-- A legal frame has at least one piece, and at most six.

pub pieces-append : (first later : List (List ℕ)) → count_pieces (first ++ later) ≡ count_pieces first + count_pieces later
pieces-append first later = sum_by-append (λ (frame : List ℕ). buffers_for (length frame)) first later

pieces-cons : (frame : List ℕ) (later : List (List ℕ)) → count_pieces (frame ∷ later) ≡ buffers_for (length frame) + count_pieces later
pieces-cons frame later = sum_by-cons (λ (frame : List ℕ). buffers_for (length frame)) frame later

pub pieces-within : (frames : List (List ℕ)) → All IsLegal frames
    → (length frames ≤ count_pieces frames) × (count_pieces frames ≤ 6 * length frames)
pieces-within [] legal = (omega arith, omega arith)
pieces-within (frame ∷ later) legal =
    let one = all-head IsLegal frame later legal in
    let more = pieces-cons frame later in
    let rest = pieces-within later (all-tail IsLegal frame later legal) in
    (omega (arith, one.least, more, rest.0), omega (arith, one.most, more, rest.1))

pub queued-least : (list : List Received) → AreFrames list → length list ≤ count_queued_pieces list
queued-least [] frames = omega arith
queued-least (received ∷ later) frames =
    omega (
      arith,
      (all-head IsWholeFrame received later frames).size.least,
      sum_by-cons (λ (received : Received). buffers_for received.len) received later,
      queued-least later (all-tail IsWholeFrame received later frames),
    )

-- The pieces that are still to be moved.

pub left-most : (moved : ℕ) (buffer : List (List ℕ)) → pieces_left moved buffer ≤ count_pieces buffer
left-most moved [] = omega arith
left-most moved (frame ∷ later) = omega (arith, pieces-cons frame later)

pub left-begun : (moved : ℕ) (buffer : List (List ℕ)) → receive_buffer_bytes ≤ length (take moved (oldest buffer))
    → pieces_left moved buffer + 1 ≤ count_pieces buffer
left-begun moved [] full = absurd (omega (arith, full, length-take moved (oldest [])))
left-begun moved (frame ∷ later) full = omega (arith, full, length-take moved frame, pieces-cons frame later)

pub left-part : (moved : ℕ) (buffer : List (List ℕ)) → receive_buffer_bytes < length (oldest buffer) - moved
    → pieces_left moved buffer ≡ 1 + pieces_left (moved + receive_buffer_bytes) buffer
left-part moved [] more = absurd (omega (arith, more))
left-part moved (frame ∷ later) more = omega (arith, more)

pub left-last : (moved : ℕ) (buffer : List (List ℕ)) → buffer ≢ [] → All IsLegal buffer → moved ≤ length (oldest buffer) - 1
    → length (oldest buffer) - moved ≤ receive_buffer_bytes
    → pieces_left moved buffer ≡ 1 + pieces_left 0 (drop 1 buffer)
left-last moved [] some legal begun short = absurd (some refl)
left-last moved (frame ∷ later) some legal begun short =
    omega (arith, (all-head IsLegal frame later legal).least, begun, short, whole later)
  where
    whole : (later : List (List ℕ)) → pieces_left 0 later ≡ count_pieces later
    whole [] = refl
    whole (next ∷ later) = omega (arith, pieces-cons next later)

-- The piece in progress

-- 1 if a frame ends in the piece in progress, else 0
abbrev pub count_ending : Option Work → ℕ
count_ending work = if is_ending work then 1 else 0

ending-few : (ends : Bool) → (if ends then 1 else 0) ≤ 1
ending-few true = omega arith
ending-few false = omega arith

pub ending-most : (work : Option Work) → count_ending work ≤ length (slot_of_work work)
ending-most None = omega arith
ending-most (Some work) = omega (arith, ending-few work.ends)

pub held-counted : (oldest : ℕ) (world : World)
    → length (frames_held oldest world)
    ≡ length (frames_of (finished_pieces oldest world))
    + (count_ending world.adapter.receiver.work + length world.adapter.receiver.buffer)
held-counted o world =
    let pieces = finished_pieces o world in
    let working = pieces_in_work world.memory world.adapter.receiver.work in
    omega (
      arith,
      length-append (frames_of (pieces ++ working)) world.adapter.receiver.buffer,
      ap length (frames-append [] pieces working),
      length-append (frames_of pieces) (frames_from (begun_of pieces) working),
      works (begun_of pieces) world.memory world.adapter.receiver.work,
    )
  where
    piece : (begun : List ℕ) (ends : Bool) (bytes : List ℕ)
        → length (frames_from begun (piece_of ends bytes ∷ [])) ≡ (if ends then 1 else 0)
    piece begun true bytes = refl
    piece begun false bytes = refl

    works : (begun memory : List ℕ) (work : Option Work) → length (frames_from begun (pieces_in_work memory work)) ≡ count_ending work
    works begun memory None = refl
    works begun memory (Some work) = piece begun work.ends (bytes_of_work memory work)

-- A piece in progress is the last of its frame, or a full buffer of the oldest frame in the packet buffer.
asked-by : (memory : List ℕ) (finished : List Piece) (work : Option Work) (moved : ℕ) (buffer : List (List ℕ)) (line : ℕ)
    → line ≤ 1 → All (IsCut receive_buffer_bytes) (finished ++ pieces_in_work memory work)
    → begun_of (finished ++ pieces_in_work memory work) ≡ take moved (oldest buffer)
    → 4 * pieces_left moved buffer + count_pending work line ≤ 4 * (count_ending work + count_pieces buffer) + 1
asked-by memory finished None moved buffer line few cut begun = omega (arith, few, left-most moved buffer)
asked-by memory finished (Some work) moved buffer line few cut begun =
    by work.ends (bytes_of_work memory work) cut begun
  where
    by : (ends : Bool) (bytes : List ℕ) → All (IsCut receive_buffer_bytes) (finished ++ piece_of ends bytes ∷ [])
        → begun_of (finished ++ piece_of ends bytes ∷ []) ≡ take moved (oldest buffer)
        → 4 * pieces_left moved buffer + 3 ≤ 4 * ((if ends then 1 else 0) + count_pieces buffer) + 1
    by true bytes cut begun = omega (arith, left-most moved buffer)
    by false bytes cut begun =
        let full : length bytes ≡ receive_buffer_bytes =
        all-head (IsCut receive_buffer_bytes) (Part bytes) []
        (all-right (IsCut receive_buffer_bytes) finished (Part bytes ∷ []) cut) in
        let long : length (begun_of finished) + length bytes ≡ length (take moved (oldest buffer)) =
        sym (length-append (begun_of finished) bytes) ∙ ap length (sym (begun-append [] finished (Part bytes ∷ [])) ∙ begun) in
        omega (arith, left-begun moved buffer (omega (arith, full, long)))

pub asked-most : (d : DriverState) (world : World) (line : ℕ) → Ready d world → line ≤ 1
    → 4 * count_left world + count_pending world.adapter.receiver.work line
    ≤ 4 * (count_ending world.adapter.receiver.work + count_pieces world.adapter.receiver.buffer) + 1
asked-most d world line ready few =
    asked-by world.memory (finished_pieces d.oldest_receive world) world.adapter.receiver.work
    world.adapter.receiver.moved world.adapter.receiver.buffer line few ready.law.whole.cut ready.law.sound.begun

-- Slots in which no frame ends

-- These slots contain only parts of one frame.
record ArePartsOnly (pieces : List Piece) : Type 0 where
  seen : List (List ℕ)
  is : pieces ≡ parts seen ++ []
  count : length pieces ≡ length seen

parts-only : (begun : List ℕ) (pieces : List Piece) → frames_from begun pieces ≡ [] → ArePartsOnly pieces
parts-only begun [] none = record { seen = []; is = refl; count = refl }
parts-only begun (Part bytes ∷ later) none =
    let rest = parts-only (begun ++ bytes) later none in
    record {
      seen = bytes ∷ rest.seen;
      is = ap (λ (list : List Piece). Part bytes ∷ list) rest.is;
      count = ap suc rest.count;
    }
parts-only begun (Last bytes ∷ later) none = absurd (cc none)

pub finished-few : (d : DriverState) (world : World) → Ready d world → frames_of (finished_pieces d.oldest_receive world) ≡ []
    → length (finished_pieces d.oldest_receive world) ≤ 5
finished-few d world ready none =
    let only = parts-only [] (finished_pieces d.oldest_receive world) none in
    omega (arith, parts_are_few true d only.seen [] world ready only.is, only.count)
