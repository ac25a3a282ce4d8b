-- The two steps of transmission ("3.3 Packet Transmission"): TxTake takes a frame from the ring, and TxPut puts a frame onto the wire.
use Rattle.std.specs.Prelude.{◌≡◌, ◌≢◌, ◌==◌, ◌++◌, ◌∷◌, [], ℕ, List, Bool, true, false, drop, if◌then◌else◌}
use Rattle.descriptors.specs.Ring.{address_of, next_of}
use Rattle.registers.specs.Places.{alone, txdw, txqe}
use Rattle.tx_engine.specs.Fetching.{HasNoFrameToTake, IsFetchable, fetched, pads}
use Rattle.tx_engine.specs.Steps.{DiffersAtMostAt, status_place, written_back}
use Rattle.tx_engine.specs.Transmitter.{Queued}
use Rattle.adapter_model.specs.declared.ring.RingRegisters.{RingRegisters}
use Rattle.adapter_model.specs.Outcomes.{FrameOutcome}
use Rattle.adapter_model.specs.declared.outcome.Outcome.TheVariants.{Took, Put, WireFull, Nothing, Fault}
use Rattle.adapter_model.specs.Recording.{one_more, with_causes}
use Rattle.adapter_model.specs.Rings.{ring_of}
use Rattle.adapter_model.specs.State.{AdapterState}

-- There is nothing to take: TCTL.EN is 0, a fault has stopped the engine, the packet buffer contains four frames, or TDH equals TDT.
abbrev pub HasNothingToTake : AdapterState → Type 0
HasNothingToTake state = HasNoFrameToTake state.transmit_control state.transmitter (ring_of state.transmit_ring)

-- The descriptor at TDH can be taken: TDH and TDT are indices of slots, and the descriptor is inside memory and can be transmitted
-- (`IsTransmittable`).
abbrev pub CanTake : List ℕ → AdapterState → Type 0
CanTake memory state = IsFetchable memory (ring_of state.transmit_ring)

-- Which outcome TxTake has, by the adapter and the memory before the step.
abbrev pub TakeAnswers : List ℕ → AdapterState → FrameOutcome → Type 0
TakeAnswers memory state Nothing = HasNothingToTake state
TakeAnswers memory state Fault = (¬ (HasNothingToTake state)) × (¬ (CanTake memory state))
TakeAnswers memory state Took = (¬ (HasNothingToTake state)) × CanTake memory state
TakeAnswers memory state _ = ⊥

-- The registers of a ring after the head has advanced by one slot.
abbrev pub moved_on : RingRegisters → RingRegisters
moved_on ring = record ring { head = next_of (ring_of ring) ring.head }

-- The causes that TxTake records if it takes a frame: TXQE, bit 1, if TDH then equals TDT (13.4.17).
abbrev pub causes_of_taking : RingRegisters → ℕ
causes_of_taking ring = if (moved_on ring).head == ring.tail then alone txqe else 0

-- The adapter after TxTake with this outcome. After `Took`, the frame is the last one in the packet buffer, TDH has advanced, and the
-- causes of `causes_of_taking` are recorded. After `Fault`, TxTake is stopped. Any other outcome changes nothing.
abbrev pub after_take : FrameOutcome → List ℕ → AdapterState → AdapterState
after_take Took memory state =
    with_causes (causes_of_taking state.transmit_ring) (record state {
      transmitter = record state.transmitter {
        buffer = state.transmitter.buffer
            ++ fetched (pads state.transmit_control) memory (address_of (ring_of state.transmit_ring) state.transmit_ring.head) ∷ [];
      };
      transmit_ring = moved_on state.transmit_ring;
    })
after_take Fault memory state = record state { transmitter = record state.transmitter { stopped = true } }
after_take _ memory state = state

-- The packet buffer isn't empty, and this frame is the oldest one in it.
abbrev pub IsOldest : List Queued → List ℕ → Type 0
IsOldest [] frame = ⊥
IsOldest (queued ∷ later) frame = queued.frame ≡ frame

-- Which outcome TxPut has, by the adapter before the step, and by whether the wire has room for a frame.
abbrev pub PutAnswers : Bool → AdapterState → FrameOutcome → Type 0
PutAnswers wire_free state Nothing = state.transmitter.buffer ≡ []
PutAnswers wire_free state WireFull = (state.transmitter.buffer ≢ []) × (wire_free ≡ false)
PutAnswers wire_free state (Put frame) = (wire_free ≡ true) × IsOldest state.transmitter.buffer frame
PutAnswers wire_free state _ = ⊥

-- The causes that TxPut records: TXDW, bit 0, if the descriptor of the oldest frame asks for a report (13.4.17; that TXDW waits until the
-- frame is on the wire is our choice).
abbrev pub causes_of_putting : List Queued → ℕ
causes_of_putting [] = 0
causes_of_putting (queued ∷ later) = if queued.rs then alone txdw else 0

-- The adapter after its oldest frame is removed from the packet buffer: GPTC counts the frame, and the causes of `causes_of_putting` are
-- recorded.
abbrev pub without_oldest : AdapterState → AdapterState
without_oldest state =
    with_causes (causes_of_putting state.transmitter.buffer) (record state {
      transmitter = record state.transmitter { buffer = drop 1 state.transmitter.buffer };
      transmitted_packets = one_more state.transmitted_packets;
    })

-- The adapter after TxPut with this outcome. If the outcome isn't `Put`, nothing changes.
abbrev pub after_put : FrameOutcome → AdapterState → AdapterState
after_put (Put frame) state = without_oldest state
after_put _ state = state

-- Memory after the oldest frame of a packet buffer is put onto the wire (`written_back`). If the packet buffer is empty, memory doesn't
-- change.
abbrev pub memory_reported : List Queued → List ℕ → List ℕ
memory_reported [] memory = memory
memory_reported (queued ∷ later) memory = written_back memory queued

-- The memory after TxPut with this outcome. If a frame was put whose descriptor asks for a report, byte 12 of this descriptor is 0x01 (DD),
-- if memory contains this byte. Otherwise memory doesn't change.
abbrev pub memory_after_put : FrameOutcome → List ℕ → AdapterState → List ℕ
memory_after_put (Put frame) memory state = memory_reported state.transmitter.buffer memory
memory_after_put _ memory state = memory

-- If a frame is in the packet buffer, the two memories differ at most in byte 12 of the oldest frame's descriptor. Otherwise they are
-- equal.
abbrev pub ChangesStatusOfOldest : List Queued → List ℕ → List ℕ → Type 0
ChangesStatusOfOldest [] memory memory' = memory' ≡ memory
ChangesStatusOfOldest (queued ∷ later) memory memory' = DiffersAtMostAt (status_place queued) memory memory'

-- The two memories differ at most in byte 12 of the descriptor of the oldest frame in the transmit packet buffer, if there is one.
abbrev pub PutChangesOnly : AdapterState → List ℕ → List ℕ → Type 0
PutChangesOnly state memory memory' = ChangesStatusOfOldest state.transmitter.buffer memory memory'
