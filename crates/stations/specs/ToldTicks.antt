-- What an observer is told of ticks (our choice).
use Rattle.std.specs.Prelude.{◌++◌, [], ℕ, List}
use Rattle.adapter.specs.Outcomes.{FrameOutcome}
use Rattle.stations.specs.declared.tick.Tick.{Tick}

-- A tick that was played, with its outcome and the number of accesses before the tick.
pub record TickTold : Type 0 where
  -- The tick.
  pub tick : Tick
  -- The number of accesses that the call made before the tick.
  pub accesses : ℕ
  -- The outcome of the tick.
  pub outcome : FrameOutcome

-- A tick that was played after this number of accesses, with this outcome.
abbrev pub tick_told : Tick → (accesses : ℕ) → FrameOutcome → TickTold
tick_told tick accesses outcome = record { tick = tick; accesses = accesses; outcome = outcome }

-- From a state to itself, an observer was told nothing. Over two consecutive intervals together, the observer was told
-- the lists of both, joined in order.
pub record ComposesTold {O : Type 0} (heard : O → O → List TickTold → Type 0) : Type 0 where
  pub stays : (a : O) → heard a a []
  pub joins : (a b c : O) (first later : List TickTold) → heard a b first → heard b c later → heard a c (first ++ later)
