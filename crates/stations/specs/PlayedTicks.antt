-- Ticks are played on all stations, and an observer is told their outcomes.
use Rattle.std.specs.Prelude.{◌≡◌, ◌≤◌, ◌+◌, ℕ, List, All, length, map}
use Rattle.stations.specs.AtomicSteps.{AtomicStep, Watched, tick_of}
use Rattle.stations.specs.declared.observer.Observer.{Ghosts as OfObserver}
use Rattle.stations.specs.declared.tick.Tick.{Tick}
use Rattle.stations.specs.AtomicRuns.{IsTick, LeadsTo, steps_told}

-- These ticks were played in order, each as one atomic step. The observer was told each outcome, with the number
-- `accesses`. The observer's room decreases by at most one outcome for each tick.
pub record PlaysTicks {O : Type 0} (observers : OfObserver O) (ticks : List Tick) (accesses : ℕ) (old new : Watched O) : Type 0 where
  pub steps : List AtomicStep
  -- no step is an access, or a `Go`
  pub are : All IsTick steps
  -- the steps can happen in a call of any host
  pub leads : (caller : ℕ) → LeadsTo caller steps old.stations new.stations
  pub played : map tick_of steps ≡ ticks
  pub heard : observers.heard old.observer new.observer (steps_told accesses steps)
  pub room : observers.room_left old.observer ≤ observers.room_left new.observer + length ticks
