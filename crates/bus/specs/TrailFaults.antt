-- A fault remains visible: it stops an engine until the next reset (our choice).
use Rattle.std.specs.Prelude.{⊤, ◌≡◌, ◌≢◌, true, false, List, All}
use Rattle.adapter_model.specs.State.{AdapterState}
use Rattle.adapter_model.specs.World.{World}
use Rattle.adapter_model.specs.declared.outcome.Outcome.TheVariants.{Fault}
use Rattle.bus.specs.Accesses.{IsNoReset}
use Rattle.bus.specs.Trails.{Trail, past_of}
use Rattle.bus.specs.declared.event.Event.{Event}
use Rattle.bus.specs.declared.event.Event.TheVariants.{Accesses, Arrives, Steps}

-- No fault has stopped an engine.
pub record EnginesRun (adapter : AdapterState) : Type 0 where
  pub receiver : adapter.receiver.stopped ≡ false
  pub transmitter : adapter.transmitter.stopped ≡ false

-- An engine that was stopped in the first state is still stopped in the second.
pub record StaysStopped (a b : AdapterState) : Type 0 where
  pub receiver : a.receiver.stopped ≡ true → b.receiver.stopped ≡ true
  pub transmitter : a.transmitter.stopped ≡ true → b.transmitter.stopped ≡ true

-- The event isn't a step with the outcome `Fault`.
abbrev pub IsNoFault : Event → Type 0
IsNoFault (Steps kind wire_free answer) = answer ≢ Fault
IsNoFault (Arrives frame fate) = ⊤
IsNoFault (Accesses access) = ⊤

-- On a trail without a reset, a stopped engine remains stopped.
abbrev pub FaultsStay : Type 0
FaultsStay =
    (events : List Event) (a b : World) → All IsNoReset (past_of events).accesses → Trail events a b → StaysStopped a.adapter b.adapter

-- If both engines run at the end of a trail without a reset, no step had the outcome `Fault`.
abbrev pub RunningEnginesMetNoFault : Type 0
RunningEnginesMetNoFault =
    (events : List Event) (a b : World) → All IsNoReset (past_of events).accesses → Trail events a b
    → EnginesRun b.adapter → All IsNoFault events
