-- Laws of the outcomes of ticks, of the counts of a host, and of the slots that a driver offers (our choice).
use Rattle.std.specs.Prelude.{◌≡◌, ◌≢◌, ◌<◌, ◌≤◌, ◌↔◌, ◌+◌, ◌%◌, ◌++◌, ◌∷◌, ℕ, None, List, All, slice_get}
use Rattle.adapter.specs.model_types.offsets.TheConstants.{RDT, TDT}
use Rattle.adapter.specs.Accesses.{IsNoReset}
use Rattle.adapter.specs.TrailFaults.{EnginesRun}
use Rattle.adapter.specs.Trails.{past_of}
use Rattle.adapter.specs.bus_types.event.Access.{Access}
use Rattle.adapter.specs.bus_types.event.Access.TheVariants.{Writes}
use Rattle.adapter.specs.bus_types.event.Event.{Event}
use Rattle.adapter.specs.bus_types.event.Event.TheVariants.{Accesses}
use Rattle.stations.specs.AtomicSteps.{At, AtomicStep, step_outcome, tick_of}
use Rattle.stations.specs.Stations.{StationState, backlog_at, world_at}
use Rattle.adapter.specs.model_types.outcome.Outcome.TheVariants.{Fault, Nothing}
use Rattle.stations.specs.declared.tick.Tick.TheVariants.{Go}
use Rattle.stations.specs.AtomicRuns.{LeadsTo, past_at}
use Rattle.host_calls.specs.CountedHosts.{IsCounted, LeavesEnabled}
use Rattle.host_calls.specs.Counts.{HasSlots, HostCounts, RingCounts, counts_after_access, counts_behind, counts_of, offered_in, one_taken}
use Rattle.host_calls.specs.StepOutcomes.{AreAnswered, OfEachTick, counts_at}
use Rattle.host_calls.specs.WaitingFrames.{waiting_at}

-- No engine of the host is stopped at the start, and no tick of the host has the outcome Fault.
pub record MeetsNoFault (host : ℕ) (steps : List AtomicStep) (start : List StationState) : Type 0 where
  pub run : EnginesRun (world_at start host).adapter
  pub none : OfEachTick host steps (λ before tick outcome. outcome ≢ Fault)

-- The outcome of each tick of a host follows from the counts and waiting frames at the start, changed by what happened
-- before the tick. Of a delivery, only the frame follows, not its fate. `MeetsNoFault` must hold, and the host's driver
-- may not write MDIC.
abbrev pub OutcomesFollowFromCounts : Type 0
OutcomesFollowFromCounts =
    (caller host : ℕ) (steps : List AtomicStep) (a b : List StationState) → LeadsTo caller steps a b
    → All IsCounted (past_at host steps).accesses → MeetsNoFault host steps a → AreAnswered host a steps

-- The counts of a host at the end are those at the start, changed by all outcomes and accesses. The host's driver may
-- not write MDIC.
abbrev pub CountsGoByOutcomes : Type 0
CountsGoByOutcomes =
    (caller host : ℕ) (steps : List AtomicStep) (a b : List StationState) → LeadsTo caller steps a b
    → All IsCounted (past_at host steps).accesses → counts_of (world_at b host).adapter ≡ counts_at a steps host

-- At the end, the frames that wait at any host's end of its wire are those that waited at the start, changed by all
-- outcomes.
abbrev pub WaitingFramesGoByOutcomes : Type 0
WaitingFramesGoByOutcomes =
    (caller host : ℕ) (steps : List AtomicStep) (a b : List StationState) → LeadsTo caller steps a b
    → backlog_at b host ≡ waiting_at a steps host

-- `MeetsNoFault` holds if no access of the host resets its adapter, and no engine of the host is stopped at the end.
abbrev pub FaultNeverComes : Type 0
FaultNeverComes =
    (caller host : ℕ) (steps : List AtomicStep) (a b : List StationState) → LeadsTo caller steps a b
    → All IsNoReset (past_at host steps).accesses → EnginesRun (world_at b host).adapter → MeetsNoFault host steps a

-- `MeetsNoFault` holds if only one access of the host may reset its adapter. No engine of the host may be stopped right
-- before this access or at the end.
abbrev pub FaultNeverComesAroundReset : Type 0
FaultNeverComesAroundReset =
    (caller host : ℕ) (first later : List AtomicStep) (access : Access) (a before after b : List StationState)
    → LeadsTo caller first a before → All IsNoReset (past_at host first).accesses → EnginesRun (world_at before host).adapter
    → LeadsTo caller later after b → All IsNoReset (past_at host later).accesses → EnginesRun (world_at b host).adapter
    → MeetsNoFault host (first ++ At host (Accesses access) ∷ later) a

-- The outcome of a tick of a host that doesn't exist is Nothing.
abbrev pub AbsentHostsAnswerNothing : Type 0
AbsentHostsAnswerNothing =
    (caller host : ℕ) (steps : List AtomicStep) (a b : List StationState) → LeadsTo caller steps a b → slice_get a host ≡ None
    → OfEachTick host steps (λ before tick outcome. outcome ≡ Nothing)

-- The outcome of Go is Nothing.
abbrev pub GoAnswersNothing : Type 0
GoAnswersNothing = (step : AtomicStep) → tick_of step ≡ Go → step_outcome step ≡ Nothing

-- If head and tail are indices of slots, no slot is offered exactly if the head equals the tail.
abbrev pub NoSlotIsOffered : Type 0
NoSlotIsOffered = (ring : RingCounts) → HasSlots ring → offered_in ring ≡ 0 ↔ ring.head ≡ ring.tail

-- When the adapter takes the slot at the head, the number of offered slots decreases by one, and head and tail remain
-- indices of slots. Head and tail must be indices of slots, and a slot must be offered.
abbrev pub OneIsTaken : Type 0
OneIsTaken =
    (ring : RingCounts) → HasSlots ring → ring.head ≢ ring.tail
    → HasSlots (one_taken ring) × (offered_in (one_taken ring) + 1 ≡ offered_in ring)

-- If head and tail are indices of slots, and the tail advances by N places, N more slots are offered. The ring must
-- have more slots than the sum of N and the slots offered before.
abbrev pub TailsOfferSlots : Type 0
TailsOfferSlots =
    (ring : RingCounts) (places : ℕ) → HasSlots ring → offered_in ring + places < ring.slots
    → offered_in (record ring { tail = (ring.tail + places) % ring.slots }) ≡ offered_in ring + places

-- If the receive ring has at most 65,536 slots, a write of a slot's index to RDT moves the ring's tail to this slot.
abbrev pub ReceiveTailWritesAreCounted : Type 0
ReceiveTailWritesAreCounted =
    (value : ℕ) (counts : HostCounts) → value < counts.receive.ring.slots → counts.receive.ring.slots ≤ 65536
    → counts_after_access (Writes RDT value) counts
    ≡ record counts { receive = record counts.receive { ring = record counts.receive.ring { tail = value } } }

-- If the transmit ring has at most 65,536 slots, a write of a slot's index to TDT moves the ring's tail to this slot.
abbrev pub TransmitTailWritesAreCounted : Type 0
TransmitTailWritesAreCounted =
    (value : ℕ) (counts : HostCounts) → value < counts.transmit.ring.slots → counts.transmit.ring.slots ≤ 65536
    → counts_after_access (Writes TDT value) counts
    ≡ record counts { transmit = record counts.transmit { ring = record counts.transmit.ring { tail = value } } }

-- If no access writes CTRL, RCTL or TCTL, the receive side remains enabled or disabled, and so does the transmit side.
abbrev pub SidesStayEnabled : Type 0
SidesStayEnabled =
    (events : List Event) (counts : HostCounts) → All LeavesEnabled (past_of events).accesses
    → ((counts_behind events counts).receive.is_enabled ≡ counts.receive.is_enabled)
    × ((counts_behind events counts).transmit.is_enabled ≡ counts.transmit.is_enabled)
