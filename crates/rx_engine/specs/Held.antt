-- The frames between the wire and the driver (our choice). These frames are in finished slots that the driver hasn't taken, in the slot in
-- progress, and in the packet buffer.
use Rattle.std.specs.Prelude.{◌≡◌, ◌++◌, ℕ, Bool, true, false, List, [], ◌∷◌, length, take, Option, None, Some}
use Rattle.std.specs.Option.{ForSome}
use Rattle.dma_memory.specs.Areas.{Area, area_at, descriptor_area, AreApart, ChangesOnly}
use Rattle.dma_memory.specs.HostMemory.{bytes_at, with_bytes, LiesIn}
use Rattle.descriptors.specs.declared.ring.Ring.{Ring}
use Rattle.descriptors.specs.Ring.{address_of}
use Rattle.rx_engine.specs.Arriving.{kept, after_arrival}
use Rattle.rx_engine.specs.Descriptors.{named_address}
use Rattle.rx_engine.specs.Pieces.{Piece, begun_of, frames_of}
use Rattle.rx_engine.specs.Pieces.Piece.{Last, Part}
use Rattle.rx_engine.specs.Receiver.{Receiver, IsReceiver, oldest}
use Rattle.rx_engine.specs.Finishing.{engine_after_done, memory_after_done, StandsApart, IsFinished}
use Rattle.rx_engine.specs.Moving.{HasFrameToMove, CanMove, engine_after_data, is_last, memory_after_data, next_piece}
use Rattle.rx_engine.specs.declared.arrival.Fate.{Fate}
use Rattle.rx_engine.specs.declared.data.Data.{Data}
use Rattle.rx_engine.specs.declared.data.Data.TheVariants as answers
use Rattle.rx_engine.specs.declared.engine.Work.{Work}

-- The bytes of the piece in progress, at the address in its descriptor.
abbrev pub bytes_of_work : List ℕ → Work → List ℕ
bytes_of_work memory work = bytes_at memory (named_address memory work.descriptor) work.length

-- A piece with these bytes. The flag is whether the frame ends in the piece.
abbrev pub piece_of : Bool → List ℕ → Piece
piece_of true bytes = Last bytes
piece_of false bytes = Part bytes

-- The piece in progress, as a list of at most one piece.
abbrev pub in_work : List ℕ → Option Work → List Piece
in_work memory None = []
in_work memory (Some work) = piece_of work.ends (bytes_of_work memory work) ∷ []

-- The pieces in slots: the finished ones, and then the piece in progress, if there is one.
abbrev pub in_slots : List ℕ → List Piece → Receiver → List Piece
in_slots memory finished engine = finished ++ in_work memory engine.work

-- The frames held: first the frames that end in slots, each with its pieces joined, then the frames in the packet buffer. The oldest frame
-- in the packet buffer is complete in this list until its last piece is moved.
abbrev pub held : List ℕ → List Piece → Receiver → List (List ℕ)
held memory finished engine = frames_of (in_slots memory finished engine) ++ engine.buffer

-- The pieces in slots after the last end of a frame, joined, are the moved bytes of the packet buffer's oldest frame.
abbrev pub HasBegun : List ℕ → List Piece → Receiver → Type 0
HasBegun memory finished engine = begun_of (in_slots memory finished engine) ≡ take engine.moved (oldest engine.buffer)

-- The frames held afterwards are the earlier ones, followed by `more`, and `HasBegun` holds afterwards.
pub record Holds (before after : List (List ℕ)) (more : List (List ℕ)) (memory : List ℕ) (finished : List Piece)
    (engine : Receiver) : Type 0 where
  -- The frames held afterwards are the earlier ones, followed by `more`.
  pub frames : after ≡ before ++ more
  -- The pieces in slots after the last end of a frame, joined, are the moved bytes of the packet buffer's oldest frame (`HasBegun`).
  pub begun : HasBegun memory finished engine

-- If `IsReceiver` and `HasBegun` hold, a stored frame is added after the frames held. An arrival with another fate doesn't change the
-- frames held. `HasBegun` holds after the arrival.
abbrev pub ArrivalGrowsHeld : Type 0
ArrivalGrowsHeld =
    (fate : Fate) (frame memory : List ℕ) (finished : List Piece) (engine : Receiver) → IsReceiver engine → HasBegun memory finished engine
    → Holds (held memory finished engine) (held memory finished (after_arrival fate frame engine)) (kept fate frame)
    memory finished (after_arrival fate frame engine)

-- The step has a piece to move, and can move the piece to a place that is apart from the piece's descriptor. `last` is whether the frame
-- ends in the piece.
pub record MovesApart (control : ℕ) (ring : Ring) (engine : Receiver) (memory : List ℕ) (last : Bool) : Type 0 where
  -- There is a piece to move, so the outcome of the step isn't `Nothing`.
  pub has : HasFrameToMove control ring engine
  -- The piece can be moved, so the outcome of the step isn't `Fault`.
  pub can : CanMove control ring memory (length (next_piece control engine))
  -- `last` is whether the frame ends in the piece.
  pub last_is : is_last control engine ≡ last
  -- The destination of the piece doesn't overlap the descriptor.
  pub apart : AreApart (area_at (named_address memory (address_of ring ring.head)) (length (next_piece control engine)))
      (descriptor_area (address_of ring ring.head))

-- If a data step moved a piece, the step meets `MovesApart`. If it moved no piece, nothing is required.
abbrev pub MovesBy : Data → ℕ → Ring → Receiver → List ℕ → Type 0
MovesBy answers.Nothing control ring engine memory = Unit {0}
MovesBy (answers.Part half) control ring engine memory = MovesApart control ring engine memory false
MovesBy (answers.Moved half) control ring engine memory = MovesApart control ring engine memory true
MovesBy answers.Fault control ring engine memory = Unit {0}

-- If `HasBegun` and `MovesBy` hold, a data step doesn't change the frames held, and `HasBegun` holds after the step. The pieces in finished
-- slots are the same before and after the step.
abbrev pub DataKeepsHeld : Type 0
DataKeepsHeld =
    (control : ℕ) (ring : Ring) (engine : Receiver) (memory : List ℕ) (finished : List Piece) (answer : Data)
    → HasBegun memory finished engine → MovesBy answer control ring engine memory
    → Holds (held memory finished engine)
    (held (memory_after_data answer control ring engine memory) finished (engine_after_data answer control ring engine)) []
    (memory_after_data answer control ring engine memory) finished (engine_after_data answer control ring engine)

-- `work` is the piece in progress before a done step. After the step, its descriptor is finished with the bytes of this piece, and the
-- piece is the last of the finished pieces. The step doesn't change the frames held.
pub record Finishes (memory : List ℕ) (finished : List Piece) (engine : Receiver) (work : Work) : Type 0 where
  -- After the step, the descriptor is finished with the bytes of the piece.
  pub stands : IsFinished (memory_after_done engine.work memory) work.descriptor work.ends (bytes_of_work memory work)
  -- The same frames are held before and after the step.
  pub holds :
      Holds (held memory finished engine)
      (held (memory_after_done engine.work memory) (finished ++ piece_of work.ends (bytes_of_work memory work) ∷ [])
      (engine_after_done engine))
      [] (memory_after_done engine.work memory) (finished ++ piece_of work.ends (bytes_of_work memory work) ∷ []) (engine_after_done engine)

-- If `IsReceiver` and `HasBegun` hold, and the piece in progress and its descriptor are inside memory and apart, a done step finishes this
-- piece (`Finishes`).
abbrev pub DoneKeepsHeld : Type 0
DoneKeepsHeld =
    (engine : Receiver) (memory : List ℕ) (finished : List Piece) → IsReceiver engine → HasBegun memory finished engine
    → ForSome engine.work (λ work. LiesIn memory work.descriptor 16 → StandsApart memory work.descriptor work.length
    → Finishes memory finished engine work)

-- An area is apart from the piece in progress and from its descriptor.
pub record IsAwayFromWork (memory : List ℕ) (area : Area) (work : Work) : Type 0 where
  -- The area doesn't overlap the descriptor.
  pub descriptor : AreApart area (descriptor_area work.descriptor)
  -- The area doesn't overlap the piece.
  pub piece : AreApart area (area_at (named_address memory work.descriptor) work.length)

-- A write inside memory that is apart from the piece in progress and its descriptor doesn't change the piece.
abbrev pub OtherBytesLeaveSlots : Type 0
OtherBytesLeaveSlots =
    (memory : List ℕ) (engine : Receiver) (place : ℕ) (bytes : List ℕ)
    → LiesIn memory place (length bytes) → ForSome engine.work (IsAwayFromWork memory (area_at place (length bytes)))
    → in_work (with_bytes memory place bytes) engine.work ≡ in_work memory engine.work

-- A finished descriptor remains finished with its piece while only bytes change that are apart from the descriptor and from the piece.
abbrev pub FinishedStays : Type 0
FinishedStays =
    (memory memory' : List ℕ) (area : Area) (descriptor : ℕ) (ends : Bool) (piece : List ℕ)
    → ChangesOnly memory memory' area → AreApart area (descriptor_area descriptor)
    → AreApart area (area_at (named_address memory descriptor) (length piece))
    → IsFinished memory descriptor ends piece → IsFinished memory' descriptor ends piece
