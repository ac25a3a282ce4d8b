-- Pieces of legal frames that are cut into buffers of one size: in large buffers no frame is cut.
use Rattle.std.proofs.Common.{◌≡◌, ◌≤◌, ◌<◌, Bool, true, false, ℕ, List, [], ◌∷◌, ◌++◌, length, length-append, refl, arith}
use Rattle.std.specs.List.{All}
use Rattle.std.proofs.lemmas.List.Elements.{All-cons}
use Rattle.descriptors.specs.Frames.{IsLegal, longest_frame}
use Rattle.rx_engine.specs.Held.{piece_of}
use Rattle.rx_engine.specs.Pieces.{Piece, IsCut, IsLast, IsLastSize, begun_from, frames_from}
use Rattle.rx_engine.specs.Pieces.Piece.{Last, Part}
use Rattle.bus.specs.LargeBuffers.{LargeBuffersTakeFrames}
use Rattle.adapter_model.specs.HostFrames.{pieces_in_slots}
use Rattle.bus.proofs.Lists.{all-head, all-none, all-tail}

pub last-ends : (ends : Bool) (bytes : List ℕ) → IsLast (piece_of ends bytes) → ends ≡ true
last-ends true bytes last = refl
last-ends false bytes last = absurd last

-- The bytes before these pieces belong to a frame that ends in the pieces or hasn't ended yet, so the longest frame has more bytes.
run-short : (size : ℕ) (begun : List ℕ) (pieces : List Piece) → All (IsCut size) pieces → All IsLegal (frames_from begun pieces)
    → length (begun_from begun pieces) < longest_frame → length begun < longest_frame
run-short size begun [] cut legal short = short
run-short size begun (Part bytes ∷ later) cut legal short =
    let on = run-short size (begun ++ bytes) later (all-tail (IsCut size) (Part bytes) later cut) legal short in
    omega (arith, on, length-append begun bytes)
run-short size begun (Last bytes ∷ later) cut legal short =
    let one = all-head IsLegal (begun ++ bytes) (frames_from [] later) legal in
    let some : IsLastSize size (length bytes) = all-head (IsCut size) (Last bytes) later cut in
    omega (arith, one.most, some.least, length-append begun bytes)

-- A part fills its buffer. So in buffers of the longest frame's size each piece is the last of its frame.
pub all-last : (size : ℕ) (begun : List ℕ) (pieces : List Piece) → longest_frame ≤ size → All (IsCut size) pieces
    → All IsLegal (frames_from begun pieces) → length (begun_from begun pieces) < longest_frame → All IsLast pieces
all-last size begun [] large cut legal short = all-none IsLast
all-last size begun (Part bytes ∷ later) large cut legal short =
    let full : length bytes ≡ size = all-head (IsCut size) (Part bytes) later cut in
    let few = run-short size (begun ++ bytes) later (all-tail (IsCut size) (Part bytes) later cut) legal short in
    absurd (omega (arith, few, full, large, length-append begun bytes))
all-last size begun (Last bytes ∷ later) large cut legal short =
    All-cons IsLast (Last bytes) later tt
    (all-last size [] later large (all-tail (IsCut size) (Last bytes) later cut)
    (all-tail IsLegal (begun ++ bytes) (frames_from [] later) legal) short)

pub large_buffers_take_frames : LargeBuffersTakeFrames
large_buffers_take_frames size o a large are = all-last size [] (pieces_in_slots o a) large are.cut are.legal are.short
