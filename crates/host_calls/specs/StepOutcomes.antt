-- The outcome of each tick, by the counts of its host and the frames that wait (our choice).
use Rattle.std.specs.Prelude.{◌≡◌, ◌==◌, ◌&&◌, ◌||◌, ◌++◌, not, ℕ, Bool, List, [], ◌∷◌, MatchBool, is_some, length, nat_le}
use Rattle.std.specs.Prelude.{if◌then◌else◌}
use Rattle.rx_engine.specs.declared.arrival.Fate.{Fate}
use Rattle.adapter.specs.model_types.step.StepKind.{StepKind}
use Rattle.adapter.specs.model_types.step.StepKind.TheVariants.{TxTake, TxPut, RxData, RxDone, EepromTick, PhyTick}
use Rattle.adapter.specs.Transmitting.{IsOldest}
use Rattle.stations.specs.AtomicSteps.{AtomicStep, after_atomic, step_outcome, tick_of}
use Rattle.stations.specs.Stations.{StationState, world_at}
use Rattle.adapter.specs.Outcomes.{FrameOutcome}
use Rattle.adapter.specs.model_types.outcome.Outcome.TheVariants.{Delivered, Done, Moved, Nothing, Part, Put, Ticked, Took, WireFull}
use Rattle.stations.specs.declared.tick.Tick.{Tick}
use Rattle.stations.specs.declared.tick.Tick.TheVariants.{Deliver, Go, Step}
use Rattle.stations.specs.AtomicRuns.{events_at}
use Rattle.host_calls.specs.Counts.{HostCounts, PhyCounts, ReceiveCounts, RingCounts, TransmitCounts, counts_behind, counts_of}
use Rattle.host_calls.specs.WaitingFrames.{WireIsFull, waiting_at}

-- The number of frames for which the transmit packet buffer has room.
abbrev pub transmit_room : ℕ
transmit_room = 4

-- Nothing if the part of the adapter is idle, else this outcome.
abbrev pub nothing_if : Bool → FrameOutcome → FrameOutcome
nothing_if is_idle outcome = if is_idle then Nothing else outcome

-- Whether no slot of the ring is offered: the head equals the tail.
abbrev pub offers_none : RingCounts → Bool
offers_none ring = ring.head == ring.tail

-- Whether TxTake has nothing to take: TCTL.EN is 0, the transmit packet buffer is full, or no slot is offered.
abbrev pub has_nothing_to_take : TransmitCounts → Bool
has_nothing_to_take counts = not counts.is_enabled || (counts.buffered == transmit_room || offers_none counts.ring)

-- Whether RxData has nothing to move: RCTL.EN is 0, a piece is in progress, the receive packet buffer is empty, or no slot is offered.
abbrev pub has_nothing_to_move : ReceiveCounts → Bool
has_nothing_to_move counts = not counts.is_enabled || (counts.is_working || (length counts.left == 0 || offers_none counts.ring))

-- The number of bytes of the oldest frame that are still to be moved; 0 if there is no frame.
abbrev pub left_of_oldest : List ℕ → ℕ
left_of_oldest [] = 0
left_of_oldest (oldest ∷ later) = oldest

-- Whether the PHY is idle: no countdown is running, and no command of MDIC is pending.
abbrev pub has_idle_phy : PhyCounts → Bool
has_idle_phy counts = counts.countdown == 0 && not (is_some counts.command)

-- The outcome of moving a piece: Moved for the last piece of a frame, else Part.
abbrev pub moved_or_part : ReceiveCounts → FrameOutcome
moved_or_part counts = if nat_le (left_of_oldest counts.left) counts.buffer_size then Moved else Part

-- All stations after these atomic steps, in order.
abbrev pub stations_behind : List AtomicStep → List StationState → List StationState
stations_behind [] stations = stations
stations_behind (step ∷ later) stations = stations_behind later (after_atomic step stations)

-- The outcome of TxPut after the steps `before` if there is a frame to put: WireFull if another end of the wire is
-- full, else Put of the oldest frame in the transmit packet buffer.
abbrev pub IsPutOutcome : (start : List StationState) (before : List AtomicStep) (host : ℕ) → FrameOutcome → Type 0
IsPutOutcome start before host WireFull = WireIsFull start before host
IsPutOutcome start before host (Put frame) =
    (¬ (WireIsFull start before host)) × IsOldest (world_at (stations_behind before start) host).adapter.transmitter.buffer frame
IsPutOutcome start before host _ = ⊥

-- The outcome of a step of this host's adapter after the steps `before`, by the host's counts; for TxPut, see
-- `IsPutOutcome`.
abbrev pub IsStepOutcome : (start : List StationState) (before : List AtomicStep) (host : ℕ) → HostCounts → StepKind → FrameOutcome → Type 0
IsStepOutcome start before host counts TxTake outcome = outcome ≡ nothing_if (has_nothing_to_take counts.transmit) Took
IsStepOutcome start before host counts TxPut outcome =
    MatchBool (counts.transmit.buffered == 0) (outcome ≡ Nothing) (IsPutOutcome start before host outcome)
IsStepOutcome start before host counts RxData outcome =
    outcome ≡ nothing_if (has_nothing_to_move counts.receive) (moved_or_part counts.receive)
IsStepOutcome start before host counts RxDone outcome = outcome ≡ nothing_if (not counts.receive.is_working) Done
IsStepOutcome start before host counts EepromTick outcome = outcome ≡ nothing_if (not counts.is_reading) Ticked
IsStepOutcome start before host counts PhyTick outcome = outcome ≡ nothing_if (has_idle_phy counts.phy) Ticked

-- The outcome of a delivery, by the frames that wait: Nothing if no frame waits, else Delivered with the oldest frame
-- and some fate.
abbrev pub IsDelivery : List (List ℕ) → FrameOutcome → Type 0
IsDelivery [] outcome = outcome ≡ Nothing
IsDelivery (oldest ∷ later) outcome = (fate : Fate) × (outcome ≡ Delivered oldest fate)

-- The counts of a host after these steps: those at the start, changed by the events at this host.
abbrev pub counts_at : (start : List StationState) → List AtomicStep → (host : ℕ) → HostCounts
counts_at start steps host = counts_behind (events_at host steps) (counts_of (world_at start host).adapter)

-- The outcome of a tick after the steps `before`, by the counts and the waiting frames at the start, changed by these
-- steps.
abbrev pub IsTickOutcome : (start : List StationState) (before : List AtomicStep) → Tick → FrameOutcome → Type 0
IsTickOutcome start before Go outcome = outcome ≡ Nothing
IsTickOutcome start before (Step host kind) outcome = IsStepOutcome start before host (counts_at start before host) kind outcome
IsTickOutcome start before (Deliver host) outcome = IsDelivery (waiting_at start before host) outcome

-- The tick is a step or a delivery at this host.
abbrev pub IsTickOf : (host : ℕ) → Tick → Type 0
IsTickOf host Go = ⊥
IsTickOf host (Step other kind) = other ≡ host
IsTickOf host (Deliver other) = other ≡ host

-- `fact` is true of the outcome of each tick of this host, with the steps before the tick.
abbrev pub OfEachTick : (host : ℕ) → List AtomicStep → (List AtomicStep → Tick → FrameOutcome → Type 0) → Type 0
OfEachTick host steps fact =
    (before later : List AtomicStep) (step : AtomicStep) → steps ≡ before ++ step ∷ later → IsTickOf host (tick_of step)
    → fact before (tick_of step) (step_outcome step)

-- Each tick of a host has the outcome that follows from the counts and the waiting frames at the start, changed by
-- earlier steps.
abbrev pub AreAnswered : (host : ℕ) → (start : List StationState) → List AtomicStep → Type 0
AreAnswered host start steps = OfEachTick host steps (IsTickOutcome start)
