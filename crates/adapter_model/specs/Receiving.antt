-- The reception of a frame ("3.2 Packet Reception"). The frame arrives, and data steps move the frame to memory piece by piece. After a
-- data step has moved a piece, a done step writes back the piece's descriptor, if the descriptor is inside memory.
use Rattle.std.specs.Prelude.{◌≡◌, ◌+◌, ◌*◌, ◌==◌}
use Rattle.std.specs.Prelude.{ℕ, Bool, true, false, List, Option, None, Some, length, if◌then◌else◌}
use Rattle.dma_memory.specs.Areas.{ChangesOnly, area_at}
use Rattle.registers.specs.Bits.{HasBit}
use Rattle.descriptors.specs.Frames.{IsLegal}
use Rattle.descriptors.specs.Ring.{address_of}
use Rattle.registers.specs.Places.{alone, rctl_en, rxdmt0, rxo, rxt0}
use Rattle.rx_engine.specs.Arriving.{IsAccepted, after_arrival}
use Rattle.rx_engine.specs.Descriptors.{named_address}
use Rattle.rx_engine.specs.Finishing.{engine_after_done, memory_after_done}
use Rattle.rx_engine.specs.Moving.{HasFrameToMove, CanMove, engine_after_data, is_half_offered, is_last, memory_after_data, next_piece}
use Rattle.rx_engine.specs.declared.arrival.Fate.{Fate}
use Rattle.rx_engine.specs.declared.data.Data.{Data}
use Rattle.rx_engine.specs.declared.arrival.Fate.TheVariants.{Off, Illegal, Filtered, Missed, Stored}
use Rattle.rx_engine.specs.declared.data.Data.TheVariants as answers
use Rattle.rx_engine.specs.declared.engine.Work.{Work}
use Rattle.rx_filter.specs.Passing.{Passes}
use Rattle.rx_filter.specs.Registers.{filter_of}
use Rattle.rx_engine.specs.Room.{HasRoomFor, LacksRoomFor}
use Rattle.adapter_model.specs.declared.ring.RingRegisters.{RingRegisters}
use Rattle.adapter_model.specs.Outcomes.{FrameOutcome}
use Rattle.adapter_model.specs.declared.outcome.Outcome.TheVariants.{Part, Moved, Done, Nothing, Fault}
use Rattle.adapter_model.specs.Recording.{one_more, with_causes}
use Rattle.adapter_model.specs.Rings.{ring_of}
use Rattle.adapter_model.specs.State.{AdapterState}
use Rattle.adapter_model.specs.Transmitting.{moved_on}

-- The size of the receive packet buffer in bytes: 1,024 times PBA.RXA, a number of kilobytes (13.4.16).
abbrev pub room : AdapterState → ℕ
room state = state.receive_kilobytes * 1024

-- RCTL.EN is set, and the frame is legal and passes the receive filter.
abbrev pub GetsIn : AdapterState → List ℕ → Type 0
GetsIn state frame = IsAccepted state.filter frame

-- Which fate a frame has, by the adapter before the arrival: the first fate that applies.
abbrev pub IsFate : AdapterState → List ℕ → Fate → Type 0
IsFate state frame Off = ¬ (HasBit state.filter.rctl rctl_en)
IsFate state frame Illegal = HasBit state.filter.rctl rctl_en × (¬ (IsLegal frame))
IsFate state frame Filtered = HasBit state.filter.rctl rctl_en × IsLegal frame × (¬ (Passes (filter_of state.filter) frame))
IsFate state frame Missed = GetsIn state frame × LacksRoomFor (room state) state.receiver.buffer frame
IsFate state frame Stored = GetsIn state frame × HasRoomFor (room state) state.receiver.buffer frame

-- RNBC after a frame is stored or missed: RNBC counts the frame if RDH equals RDT (our choice).
abbrev pub no_buffers_counted : AdapterState → ℕ
no_buffers_counted state = if state.receive_ring.head == state.receive_ring.tail then one_more state.no_receive_buffers
    else state.no_receive_buffers

-- The adapter after the arrival of a frame with this fate. A stored frame is added at the end of the packet buffer. If the frame is
-- missed, MPC counts it, and RXO, bit 6, is recorded. If the frame is stored or missed while RDH equals RDT, RNBC counts it. Any other
-- fate changes nothing.
abbrev pub after_arrive : Fate → List ℕ → AdapterState → AdapterState
after_arrive Off frame state = state
after_arrive Illegal frame state = state
after_arrive Filtered frame state = state
after_arrive Missed frame state =
    with_causes (alone rxo) (record state { missed_packets = one_more state.missed_packets; no_receive_buffers = no_buffers_counted state })
after_arrive Stored frame state =
    record state { receiver = after_arrival Stored frame state.receiver; no_receive_buffers = no_buffers_counted state }

-- A data step has something to do: a frame is in the packet buffer, and a descriptor is offered. RCTL.EN is set, no fault has stopped data
-- steps, and no piece is in progress.
abbrev pub HasFrameAndDescriptor : AdapterState → Type 0
HasFrameAndDescriptor state = HasFrameToMove state.filter.rctl (ring_of state.receive_ring) state.receiver

-- The size of the next piece of the oldest frame: the rest of the frame, at most the buffer size that RCTL.BSIZE selects.
abbrev pub piece_size : AdapterState → ℕ
piece_size state = length (next_piece state.filter.rctl state.receiver)

-- Whether the next piece of the oldest frame is the frame's last one.
abbrev pub is_last_piece : AdapterState → Bool
is_last_piece state = is_last state.filter.rctl state.receiver

-- The next piece of the oldest frame can be moved: RDH and RDT are indices of slots, and RCTL.BSEX is 0. The descriptor at RDH is inside
-- memory, and so are the bytes of its buffer that the piece fills.
abbrev pub CanMovePiece : List ℕ → AdapterState → Type 0
CanMovePiece memory state = CanMove state.filter.rctl (ring_of state.receive_ring) memory (piece_size state)

-- Which outcome a data step has, by the adapter and the memory before the step.
abbrev pub DataAnswers : List ℕ → AdapterState → FrameOutcome → Type 0
DataAnswers memory state Nothing = ¬ (HasFrameAndDescriptor state)
DataAnswers memory state Fault = HasFrameAndDescriptor state × (¬ (CanMovePiece memory state))
DataAnswers memory state Part = HasFrameAndDescriptor state × CanMovePiece memory state × (is_last_piece state ≡ false)
DataAnswers memory state Moved = HasFrameAndDescriptor state × CanMovePiece memory state × (is_last_piece state ≡ true)
DataAnswers memory state _ = ⊥

-- The causes that a data step records if it moves a piece: RXDMT0, bit 4, if exactly half of the ring's descriptors are offered after the
-- step (13.4.17; 13.4.22, RDMTS 00).
abbrev pub causes_of_moving : RingRegisters → ℕ
causes_of_moving ring = if is_half_offered (ring_of (moved_on ring)) then alone rxdmt0 else 0

-- The adapter after a data step that moved a piece, by the answer of the engine, `Part` or `Moved`.
abbrev pub after_move : Data → AdapterState → AdapterState
after_move answer state =
    with_causes (causes_of_moving state.receive_ring) (record state {
      receiver = engine_after_data answer state.filter.rctl (ring_of state.receive_ring) state.receiver;
      receive_ring = moved_on state.receive_ring;
    })

-- The adapter after a data step with this outcome. After `Part` or `Moved`, a piece of the oldest frame is in progress, RDH has advanced,
-- and the causes of `causes_of_moving` are recorded. `Moved` also removes the frame from the packet buffer. After `Fault`, data steps are
-- stopped. Any other outcome changes nothing.
abbrev pub after_data : FrameOutcome → AdapterState → AdapterState
after_data Part state = after_move (answers.Part (is_half_offered (ring_of (moved_on state.receive_ring)))) state
after_data Moved state = after_move (answers.Moved (is_half_offered (ring_of (moved_on state.receive_ring)))) state
after_data Fault state =
    record state { receiver = engine_after_data answers.Fault state.filter.rctl (ring_of state.receive_ring) state.receiver }
after_data _ state = state

-- The memory after a data step with this outcome: a moved piece is in the buffer that the descriptor at RDH points to. If the outcome is
-- neither `Part` nor `Moved`, memory doesn't change.
abbrev pub memory_after_data_step : FrameOutcome → List ℕ → AdapterState → List ℕ
memory_after_data_step Part memory state =
    memory_after_data (answers.Part (is_half_offered (ring_of (moved_on state.receive_ring))))
    state.filter.rctl (ring_of state.receive_ring) state.receiver memory
memory_after_data_step Moved memory state =
    memory_after_data (answers.Moved (is_half_offered (ring_of (moved_on state.receive_ring))))
    state.filter.rctl (ring_of state.receive_ring) state.receiver memory
memory_after_data_step _ memory state = memory

-- The two memories differ at most in the bytes that the next piece fills, in the buffer that the descriptor at RDH points to.
abbrev pub DataChangesOnly : AdapterState → List ℕ → List ℕ → Type 0
DataChangesOnly state memory memory' =
    ChangesOnly memory memory'
    (area_at (named_address memory (address_of (ring_of state.receive_ring) state.receive_ring.head))
    (piece_size state))

-- Which outcome a done step has, by the adapter before the step.
abbrev pub DoneAnswers : AdapterState → FrameOutcome → Type 0
DoneAnswers state Nothing = state.receiver.work ≡ None
DoneAnswers state Done = ¬ (state.receiver.work ≡ None)
DoneAnswers state _ = ⊥

-- Whether a piece is in progress, and is the last piece of its frame.
abbrev pub is_ending : Option Work → Bool
is_ending None = false
is_ending (Some work) = work.ends

-- The causes that a done step records: RXT0, bit 7, if the piece in progress is the last of its frame (13.4.17).
abbrev pub causes_of_finishing : Option Work → ℕ
causes_of_finishing work = if is_ending work then alone rxt0 else 0

-- GPRC after a done step: GPRC counts a frame if the last piece of this frame was in progress (our choice).
abbrev pub received_counted : AdapterState → ℕ
received_counted state = if is_ending state.receiver.work then one_more state.received_packets else state.received_packets

-- The adapter after a done step with this outcome. After `Done`, no piece is in progress. If the piece that was in progress is the last of
-- its frame, RXT0 is recorded, and GPRC counts the frame. Any other outcome changes nothing.
abbrev pub after_done : FrameOutcome → AdapterState → AdapterState
after_done Done state =
    with_causes (causes_of_finishing state.receiver.work)
    (record state { receiver = engine_after_done state.receiver; received_packets = received_counted state })
after_done _ state = state

-- The memory after a done step. If a piece is in progress, and its whole descriptor is inside memory, bytes 8 to 15 of this descriptor are
-- written. Otherwise memory doesn't change.
abbrev pub memory_after_done_step : List ℕ → AdapterState → List ℕ
memory_after_done_step memory state = memory_after_done state.receiver.work memory

-- If a piece is in progress, the two memories differ at most in bytes 8 to 15 of the piece's descriptor. Otherwise they are equal.
abbrev pub ChangesDescriptorOf : Option Work → List ℕ → List ℕ → Type 0
ChangesDescriptorOf None memory memory' = memory' ≡ memory
ChangesDescriptorOf (Some work) memory memory' = ChangesOnly memory memory' (area_at (work.descriptor + 8) 8)

-- The two memories differ at most in bytes 8 to 15 of the descriptor of the adapter's piece in progress, if there is one.
abbrev pub DoneChangesOnly : AdapterState → List ℕ → List ℕ → Type 0
DoneChangesOnly state memory memory' = ChangesDescriptorOf state.receiver.work memory memory'
