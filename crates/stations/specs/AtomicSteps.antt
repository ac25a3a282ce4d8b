-- The atomic steps of a network: one access, one step of an adapter, one delivery, or an idle tick.
use Rattle.std.specs.Prelude.{⊤, ◌≡◌, ◌≤◌, ◌+◌, ◌∷◌, ◌↔◌, IsTrue, ℕ, None, Some, List, [], slice_get}
use Rattle.rx_engine.specs.declared.arrival.Fate.{Fate}
use Rattle.adapter.specs.Receiving.{IsFate}
use Rattle.adapter.specs.State.{IsAdapter}
use Rattle.adapter.specs.model_types.step.StepKind.TheVariants.{TxPut}
use Rattle.adapter.specs.Trails.{Occurs}
use Rattle.adapter.specs.bus_types.event.Event.{Event}
use Rattle.adapter.specs.bus_types.event.Event.TheVariants.{Accesses, Arrives, Steps}
use Rattle.stations.specs.ToldTicks.{tick_told}
use Rattle.stations.specs.declared.observer.Observer.{Ghosts as OfObserver}
use Rattle.stations.specs.Stations.{StationState, WireHasRoom, backlog_at, station_after, stations_after, wire_at, world_at}
use Rattle.adapter.specs.Outcomes.{FrameOutcome}
use Rattle.adapter.specs.model_types.outcome.Outcome.TheVariants.{Delivered, Nothing}
use Rattle.stations.specs.declared.tick.Tick.{Tick}
use Rattle.stations.specs.declared.tick.Tick.TheVariants.{Deliver, Go, Step}

-- An atomic step: one event at one host, or an idle tick.
pub data AtomicStep : Type 0 where
  -- An event at a host: an access, a step of its adapter, or a delivery to its adapter.
  At : (host : ℕ) (event : Event) → AtomicStep
  -- An idle tick: Go, a tick of a host that doesn't exist, or a delivery at an end where no frame waits.
  Idles : (tick : Tick) → AtomicStep

-- The tick of an event. The tick of an access is Go.
abbrev pub tick_of_event : (host : ℕ) → Event → Tick
tick_of_event host (Steps kind wire_free answer) = Step host kind
tick_of_event host (Arrives frame fate) = Deliver host
tick_of_event host (Accesses access) = Go

-- The outcome of an event at a host. The outcome of an access is Nothing.
abbrev pub outcome_of_event : Event → FrameOutcome
outcome_of_event (Steps kind wire_free outcome) = outcome
outcome_of_event (Arrives frame fate) = Delivered frame fate
outcome_of_event (Accesses access) = Nothing

-- The tick of an atomic step.
abbrev pub tick_of : AtomicStep → Tick
tick_of (At host event) = tick_of_event host event
tick_of (Idles tick) = tick

-- The outcome of an atomic step.
abbrev pub step_outcome : AtomicStep → FrameOutcome
step_outcome (At host event) = outcome_of_event event
step_outcome (Idles tick) = Nothing

-- An event at a host agrees with the host's wire. For TxPut, the wire is free exactly if each other end has room for
-- one more frame. A delivery is of the oldest frame that waits at the host's end.
abbrev pub SuitsWire : (host wire : ℕ) → Event → List StationState → Type 0
SuitsWire host wire (Steps kind wire_free answer) stations = kind ≡ TxPut → IsTrue wire_free ↔ WireHasRoom stations host wire
SuitsWire host wire (Arrives frame fate) stations = slice_get (backlog_at stations host) 0 ≡ Some frame
SuitsWire host wire (Accesses access) stations = ⊤

-- The event can happen at this host, which exists.
pub record OccursAt (host : ℕ) (event : Event) (stations : List StationState) : Type 0 where
  -- The number of the host's wire.
  pub wire : ℕ
  -- The host exists, and is on this wire.
  pub on_wire : wire_at stations host ≡ Some wire
  -- The event can happen to the host's adapter and memory.
  pub occurs : Occurs event (world_at stations host)
  -- The event agrees with the wire.
  pub suits_wire : SuitsWire host wire event stations

-- The frame is the oldest that waits at the end of the station `old`. The frame's delivery has this fate, and changes
-- the station `old` to `new`.
pub record IsDelivered (old : StationState) (frame : List ℕ) (fate : Fate) (new : StationState) : Type 0 where
  pub oldest : slice_get old.backlog 0 ≡ Some frame
  pub adapter : IsAdapter old.world.adapter
  pub fated : IsFate old.world.adapter frame fate
  pub leaves : new ≡ station_after (Arrives frame fate) old

-- The tick is idle: the tick is Go, its host doesn't exist, or it is a delivery and no frame waits at the host's end.
abbrev pub FindsNothing : Tick → List StationState → Type 0
FindsNothing Go stations = ⊤
FindsNothing (Step host kind) stations = slice_get stations host ≡ None
FindsNothing (Deliver host) stations = backlog_at stations host ≡ []

-- The atomic step can happen in this state of all stations.
abbrev pub CanHappen : AtomicStep → List StationState → Type 0
CanHappen (At host event) stations = OccursAt host event stations
CanHappen (Idles tick) stations = FindsNothing tick stations

-- The atomic step isn't an access.
abbrev pub IsNoAccess : AtomicStep → Type 0
IsNoAccess (At host (Steps kind wire_free answer)) = ⊤
IsNoAccess (At host (Arrives frame fate)) = ⊤
IsNoAccess (At host (Accesses access)) = ⊥
IsNoAccess (Idles tick) = ⊤

-- All stations after an atomic step.
abbrev pub after_atomic : AtomicStep → List StationState → List StationState
after_atomic (At host event) stations = stations_after host event stations
after_atomic (Idles tick) stations = stations

-- The tick `tick` is played with the outcome `outcome`: one atomic step, which isn't an access, leads from the stations
-- `old` to `new`.
pub record PlaysTick (old : List StationState) (tick : Tick) (outcome : FrameOutcome) (new : List StationState) : Type 0 where
  pub step : AtomicStep
  pub tick_is : tick_of step ≡ tick
  pub outcome_is : step_outcome step ≡ outcome
  pub no_access : IsNoAccess step
  pub happens : CanHappen step old
  pub leaves : new ≡ after_atomic step old

-- All stations of a network, and the observer of the ticks that are played on them.
pub record Watched (O : Type 0) : Type 0 where
  pub stations : List StationState
  pub observer : O

-- These stations with this observer.
abbrev pub watched : {O : Type 0} → List StationState → O → Watched O
watched stations observer = record { stations = stations; observer = observer }

-- The tick `tick` is played after `accesses` accesses, and the observer is told its outcome. The observer's room decreases by at most one
-- outcome.
pub record PlaysNoted {O : Type 0} (observers : OfObserver O) (tick : Tick) (accesses : ℕ) (old new : Watched O) : Type 0 where
  pub outcome : FrameOutcome
  pub plays : PlaysTick old.stations tick outcome new.stations
  pub heard : observers.heard old.observer new.observer (tick_told tick accesses outcome ∷ [])
  pub room : observers.room_left old.observer ≤ observers.room_left new.observer + 1
