-- The frames held and the frames to be sent, and the effect of steps and arrivals on both (our choice): the engines' laws, applied to an
-- adapter.
use Rattle.std.specs.Prelude.{◌≡◌, ◌∷◌, [], ℕ, List, All, Bool, Some}
use Rattle.dma_memory.specs.Areas.{AreApart, area_at, descriptor_area}
use Rattle.dma_memory.specs.HostMemory.{LiesIn}
use Rattle.descriptors.specs.Ring.{address_of, offered_places}
use Rattle.rx_engine.specs.Arriving.{kept}
use Rattle.rx_engine.specs.Descriptors.{named_address}
use Rattle.rx_engine.specs.Receiver.{IsReceiver}
use Rattle.rx_engine.specs.Pieces.{Piece}
use Rattle.rx_engine.specs.Finishing.{StandsApart}
use Rattle.rx_engine.specs.Held.{Finishes, HasBegun, Holds, held}
use Rattle.rx_engine.specs.declared.arrival.Fate.{Fate}
use Rattle.rx_engine.specs.declared.engine.Work.{Work}
use Rattle.tx_engine.specs.Fetching.{pads}
use Rattle.tx_engine.specs.Steps.{IfFront, status_place}
use Rattle.tx_engine.specs.ToSend.{IsAwayFrom, to_send}
use Rattle.adapter_model.specs.Outcomes.{FrameOutcome}
use Rattle.adapter_model.specs.declared.outcome.Outcome.TheVariants.{Put}
use Rattle.adapter_model.specs.Receiving.{DataAnswers, after_arrive, after_data, memory_after_data_step, piece_size}
use Rattle.adapter_model.specs.Rings.{ring_of}
use Rattle.adapter_model.specs.State.{AdapterState}
use Rattle.adapter_model.specs.Transmitting.{PutAnswers, TakeAnswers, after_put, after_take, memory_after_put}

-- The frames still to be sent: first those in the transmit packet buffer, then those of the offered transmit descriptors. If TCTL.PSP is
-- set, the frames of descriptors are padded.
abbrev pub frames_to_transmit : List ℕ → AdapterState → List (List ℕ)
frames_to_transmit memory state = to_send memory (ring_of state.transmit_ring) (pads state.transmit_control) state.transmitter.buffer

-- A take step doesn't change the frames to be sent, whatever its outcome.
abbrev pub TakingLeavesFrames : Type 0
TakingLeavesFrames =
    (memory : List ℕ) (state : AdapterState) (answer : FrameOutcome) → TakeAnswers memory state answer
    → frames_to_transmit memory (after_take answer memory state) ≡ frames_to_transmit memory state

-- Byte 12 of the descriptor of the transmit packet buffer's oldest frame, if any, is apart from each offered descriptor's first ten bytes
-- and data.
abbrev pub ReportStandsApart : List ℕ → AdapterState → Type 0
ReportStandsApart memory state =
    IfFront state.transmitter.buffer (λ queued.
    All (λ slot. IsAwayFrom memory (area_at (status_place queued) 1) (address_of (ring_of state.transmit_ring) slot))
    (offered_places (ring_of state.transmit_ring)))

-- If `ReportStandsApart` holds, a put step that puts a frame removes this frame from the frames to be sent, of which it is the first.
abbrev pub PuttingTakesFirst : Type 0
PuttingTakesFirst =
    (wire_free : Bool) (memory : List ℕ) (state : AdapterState) (frame : List ℕ) → PutAnswers wire_free state (Put frame)
    → ReportStandsApart memory state
    → frames_to_transmit memory state ≡ frame ∷ frames_to_transmit (memory_after_put (Put frame) memory state) (after_put (Put frame) state)

-- The bytes to which the next piece is written are apart from the descriptor at RDH, which contains their address.
abbrev pub PlaceStandsApart : List ℕ → AdapterState → Type 0
PlaceStandsApart memory state =
    let descriptor = address_of (ring_of state.receive_ring) state.receive_ring.head in
    AreApart (area_at (named_address memory descriptor) (piece_size state)) (descriptor_area descriptor)

-- After a step or an arrival, the frames held are the earlier ones, followed by `more`, and `HasBegun` holds. `finished` are the pieces in
-- finished slots.
abbrev pub HoldsThen : (more : List (List ℕ)) → (finished : List Piece) → (memory memory' : List ℕ) → (state state' : AdapterState) → Type 0
HoldsThen more finished memory memory' state state' =
    Holds (held memory finished state.receiver) (held memory' finished state'.receiver) more memory' finished state'.receiver

-- If `HasBegun` and `PlaceStandsApart` hold, a data step doesn't change the frames held, whatever its outcome, and `HasBegun` holds after
-- the step.
abbrev pub DataLeavesFrames : Type 0
DataLeavesFrames =
    (finished : List Piece) (memory : List ℕ) (state : AdapterState) (answer : FrameOutcome)
    → HasBegun memory finished state.receiver → DataAnswers memory state answer → PlaceStandsApart memory state
    → HoldsThen [] finished memory (memory_after_data_step answer memory state) state (after_data answer state)

-- If `IsReceiver` and `HasBegun` hold, and the piece in progress and its descriptor are inside memory and apart, a done step finishes this
-- piece (`Finishes`).
abbrev pub DoneFinishesPiece : Type 0
DoneFinishesPiece =
    (finished : List Piece) (memory : List ℕ) (state : AdapterState) (work : Work)
    → IsReceiver state.receiver → HasBegun memory finished state.receiver → state.receiver.work ≡ Some work
    → LiesIn memory work.descriptor 16 → StandsApart memory work.descriptor work.length
    → Finishes memory finished state.receiver work

-- If `IsReceiver` and `HasBegun` hold, a stored frame is added after the frames held. An arrival with another fate doesn't change the
-- frames held. `HasBegun` holds after the arrival.
abbrev pub ArrivalGrowsFrames : Type 0
ArrivalGrowsFrames =
    (finished : List Piece) (memory frame : List ℕ) (state : AdapterState) (fate : Fate)
    → IsReceiver state.receiver → HasBegun memory finished state.receiver
    → HoldsThen (kept fate frame) finished memory memory state (after_arrive fate frame state)
