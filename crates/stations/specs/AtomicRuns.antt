-- Atomic steps one after the other, in a call of one host or between calls (our choice).
use Rattle.std.specs.Prelude.{⊤, ◌≡◌, ◌+◌, ◌==◌, ◌++◌, ℕ, Bool, false, true, List, [], ◌∷◌, min, if◌then◌else◌}
use Rattle.std.specs.List.{flat_map}
use Rattle.adapter.specs.LivelyBuses.{most_accesses}
use Rattle.adapter.specs.Pasts.{Past}
use Rattle.adapter.specs.Trails.{past_of}
use Rattle.adapter.specs.bus_types.event.Event.{Event}
use Rattle.adapter.specs.bus_types.event.Event.TheVariants.{Accesses, Arrives, Steps}
use Rattle.stations.specs.AtomicSteps.{At, AtomicStep, CanHappen, Idles, after_atomic, step_outcome}
use Rattle.stations.specs.Stations.{StationState}
use Rattle.stations.specs.ToldTicks.{TickTold, tick_told}
use Rattle.adapter.specs.model_types.outcome.Outcome.TheVariants.{Delivered, Nothing}
use Rattle.stations.specs.declared.outcomes.Numbered.{Numbered}
use Rattle.stations.specs.declared.tick.Tick.{Tick}
use Rattle.stations.specs.declared.tick.Tick.TheVariants.{Deliver, Go, Step}

-- Whether the tick is Go.
abbrev pub is_go : Tick → Bool
is_go Go = true
is_go (Step host kind) = false
is_go (Deliver host) = false

-- This atomic step can be part of a call of host `caller`: an access is made by this host, and an idle tick isn't Go.
abbrev pub IsOfCall : (caller : ℕ) → AtomicStep → Type 0
IsOfCall caller (At host (Steps kind wire_free answer)) = ⊤
IsOfCall caller (At host (Arrives frame fate)) = ⊤
IsOfCall caller (At host (Accesses access)) = host ≡ caller
IsOfCall caller (Idles tick) = is_go tick ≡ false

-- These atomic steps can happen one after the other in a call of host `caller`, and lead from the stations `old` to the
-- stations `new`.
abbrev pub LeadsTo : (caller : ℕ) → List AtomicStep → (old new : List StationState) → Type 0
LeadsTo caller [] old new = new ≡ old
LeadsTo caller (step ∷ later) old new = CanHappen step old × IsOfCall caller step × LeadsTo caller later (after_atomic step old) new

-- The atomic step is a tick other than Go, so it isn't an access.
abbrev pub IsTick : AtomicStep → Type 0
IsTick (At host (Steps kind wire_free answer)) = ⊤
IsTick (At host (Arrives frame fate)) = ⊤
IsTick (At host (Accesses access)) = false ≡ true
IsTick (Idles tick) = is_go tick ≡ false

-- The event of an atomic step as a list; empty if the event is at another host, or the step is an idle tick.
abbrev pub events_by : (host : ℕ) → AtomicStep → List Event
events_by k (At host event) = if k == host then event ∷ [] else []
events_by k (Idles tick) = []

-- The events of atomic steps at one host, in order.
abbrev pub events_at : (host : ℕ) → List AtomicStep → List Event
events_at k steps = flat_map (events_by k) steps

-- What happened in these atomic steps at one host.
abbrev pub past_at : (host : ℕ) → List AtomicStep → Past
past_at k steps = past_of (events_at k steps)

-- The outcome of an atomic step, with the number of accesses before the step, as a list.
abbrev pub numbered_outcome : ℕ → AtomicStep → List Numbered
numbered_outcome n step = record { accesses = n; outcome = step_outcome step } ∷ []

-- The outcome of an atomic step, with the number of accesses before the step, as a list; empty for an access.
abbrev pub noted_by : ℕ → AtomicStep → List Numbered
noted_by n (At host (Steps kind wire_free answer)) = numbered_outcome n (At host (Steps kind wire_free answer))
noted_by n (At host (Arrives frame fate)) = numbered_outcome n (At host (Arrives frame fate))
noted_by n (At host (Accesses access)) = []
noted_by n (Idles tick) = numbered_outcome n (Idles tick)

-- The number of accesses after an atomic step, if `n` is the number before the step. The number saturates at the
-- greatest u64.
abbrev pub counted_by : ℕ → AtomicStep → ℕ
counted_by n (At host (Steps kind wire_free answer)) = n
counted_by n (At host (Arrives frame fate)) = n
counted_by n (At host (Accesses access)) = min (n + 1) most_accesses
counted_by n (Idles tick) = n

-- The outcomes of atomic steps in order, except those of accesses. Each outcome has the number of accesses before its
-- step; `n` accesses were made before the first step.
abbrev pub noted_of : ℕ → List AtomicStep → List Numbered
noted_of n [] = []
noted_of n (step ∷ later) = noted_by n step ++ noted_of (counted_by n step) later

-- What an observer is told of an atomic step: the step's tick, the number of accesses before the step, and its outcome.
-- An observer is told nothing of an access.
abbrev pub step_told : ℕ → AtomicStep → List TickTold
step_told n (At host (Steps kind wire_free answer)) = tick_told (Step host kind) n answer ∷ []
step_told n (At host (Arrives frame fate)) = tick_told (Deliver host) n (Delivered frame fate) ∷ []
step_told n (At host (Accesses access)) = []
step_told n (Idles tick) = tick_told tick n Nothing ∷ []

-- What an observer is told of atomic steps, in order, if `n` accesses were made before the first step.
abbrev pub steps_told : ℕ → List AtomicStep → List TickTold
steps_told n [] = []
steps_told n (step ∷ later) = step_told n step ++ steps_told (counted_by n step) later

-- The number of accesses after atomic steps, if `n` is the number before the first step. The number saturates at the
-- greatest u64.
abbrev pub counted_of : ℕ → List AtomicStep → ℕ
counted_of n [] = n
counted_of n (step ∷ later) = counted_of (counted_by n step) later
