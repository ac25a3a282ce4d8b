-- The state of a lent bus, and what happened between two of its states (our choice).
use Rattle.std.specs.Prelude.{◌≡◌, ◌+◌, ℕ, List, [], length, map, min}
use Rattle.adapter.specs.World.{World}
use Rattle.adapter.specs.Pasts.{Past}
use Rattle.adapter.specs.TickGroups.{behind_group, group_of, played_in, waiting_after, without_go}
use Rattle.stations.specs.AtomicSteps.{AtomicStep, Watched, tick_of, watched}
use Rattle.stations.specs.declared.observer.Observer.{Ghosts as OfObserver}
use Rattle.stations.specs.Stations.{world_at}
use Rattle.stations.specs.declared.tick.Tick.TheVariants.{Go}
use Rattle.adapter.specs.LivelyBuses.{most_accesses}
use Rattle.stations.specs.AtomicRuns.{LeadsTo, counted_of, is_go, past_at, steps_told}
use Rattle.stations.specs.PlayedTicks.{PlaysTicks}
use Rattle.stations.specs.declared.lent_bus.LentBus.{LentBus}

-- The adapter and the memory of the host that makes the call.
abbrev pub world_here : {O : Type 0} {g : OfObserver O} → LentBus O g → World
world_here bus = world_at bus.stations.now bus.host

-- The number of bytes of the memory of the host that makes the call.
abbrev pub bytes_here : {O : Type 0} {g : OfObserver O} → LentBus O g → ℕ
bytes_here bus = length (world_here bus).memory

-- The stations and the observer that are lent.
abbrev pub watched_by : {O : Type 0} {g : OfObserver O} → LentBus O g → Watched O
watched_by bus = watched bus.stations.now bus.observer.now

-- Both states are of one bus: the same stations and the same observer are lent, to a call of the same host.
pub record SameLent {O : Type 0} {g : OfObserver O} (a b : LentBus O g) : Type 0 where
  pub stations : b.stations.ghost_name ≡ a.stations.ghost_name
  pub observer : b.observer.ghost_name ≡ a.observer.ghost_name
  pub host : b.host ≡ a.host

-- How the bus counts the accesses of the call between two states: by the atomic steps, and by the accesses in `past`.
pub record CountsAccesses {O : Type 0} {g : OfObserver O} (a b : LentBus O g) (steps : List AtomicStep) (past : Past) : Type 0 where
  -- Each access among the steps adds one to the count, which saturates at the greatest u64.
  pub number : b.accesses ≡ counted_of a.accesses steps
  -- The count increases by the number of accesses in `past`, up to the greatest count.
  pub count : min b.accesses most_accesses ≡ min (a.accesses + length past.accesses) most_accesses

-- What happened between two states of a lent bus: the atomic steps `steps`. `past` contains the events of the calling
-- host in these steps. The steps are the accesses in `past`, each after the ticks up to the next Go, or after all ticks if
-- no Go remains. The observer was told the outcome of each of these ticks in order, with the number of accesses before the
-- tick.
pub record HappenedLent {O : Type 0} {g : OfObserver O} (a b : LentBus O g) (past : Past) : Type 0 where
  pub lent : SameLent a b
  pub steps : List AtomicStep
  pub leads : LeadsTo a.host steps a.stations.now b.stations.now
  pub past_is : past ≡ past_at a.host steps
  pub played : map tick_of steps ≡ played_in is_go Go [] past.accesses a.ticks.now
  -- the ticks that are still to be played
  pub waiting : b.ticks.now ≡ waiting_after is_go past.accesses a.ticks.now
  pub heard : g.heard a.observer.now b.observer.now (steps_told a.accesses steps)
  pub accesses : CountsAccesses a b steps past

-- The bus was prepared for an access: the ticks up to the next Go, or all if no Go remains, were played. The access was
-- counted.
pub record PreparedLent {O : Type 0} {g : OfObserver O} (a b : LentBus O g) : Type 0 where
  pub lent : SameLent a b
  pub plays : PlaysTicks g (group_of is_go a.ticks.now) a.accesses (watched_by a) (watched_by b)
  pub waiting : b.ticks.now ≡ behind_group is_go a.ticks.now
  pub count : b.accesses ≡ min (a.accesses + 1) most_accesses

-- The bus was finished after the last access of the call: all remaining ticks except each Go were played.
pub record Finished {O : Type 0} {g : OfObserver O} (a b : LentBus O g) : Type 0 where
  pub lent : SameLent a b
  pub plays : PlaysTicks g (without_go is_go a.ticks.now) a.accesses (watched_by a) (watched_by b)
  pub none : b.ticks.now ≡ []
  pub count : b.accesses ≡ a.accesses
