-- Requests of the server. What the generator draws precedes an access. Cycles follow an access or an arrival (our choice).
use Rattle.std.specs.Prelude.{◌≡◌, ℕ, List, nat_lt}
use Rattle.adapter.specs.bus_types.event.Access.{Access}
use Rattle.adapter.specs.bus_types.event.Access.TheVariants.{Loads}
use Rattle.dma_memory.specs.HostMemory.{bytes_at}
use Rattle.rx_engine.specs.declared.arrival.Fate.{Fate}
use Rattle.step_schedules.specs.declared.deviation.Action.TheVariants.{Choose}
use Rattle.played_adapter.specs.Draws.{chosen_below}
use Rattle.played_adapter.specs.Order.{Joins}
use Rattle.played_adapter.specs.Playing.{AllArrive, Arrives, HappensAlone, Interleaves, Paced, Settles, most_cycles, noted}
use Rattle.played_adapter.specs.Told.{Told}
use Rattle.played_adapter.specs.declared.player.PlayedAdapter.{PlayedAdapter}

-- What the generator draws is played, and then an access happens.
abbrev pub AccessedAfter : Access → PlayedAdapter → PlayedAdapter → List Told → Type 0
AccessedAfter access a b told = Joins (Interleaves a) (λ middle rest. HappensAlone access middle b rest) told

-- An access or an arrival happens, and then cycles are played.
abbrev pub PacedAfter : (Happens : PlayedAdapter → List Told → Type 0) → PlayedAdapter → List Told → Type 0
PacedAfter Happens b told = Joins Happens (λ middle rest. Paced middle b rest) told

-- What the generator draws is played, then an access happens, and then cycles are played.
abbrev pub ServesAccess : Access → PlayedAdapter → PlayedAdapter → List Told → Type 0
ServesAccess access a b told = PacedAfter (AccessedAfter access a) b told

-- As `ServesAccess`, for an access that loads these bytes from memory.
abbrev pub ServesLoad : (address size : ℕ) → (bytes : List ℕ) → PlayedAdapter → PlayedAdapter → List Told → Type 0
ServesLoad address size bytes a b told = PacedAfter (λ middle first.
    AccessedAfter (Loads address size) a middle first × (bytes ≡ bytes_at middle.machine.world.memory address size)) b told

-- A frame arrives, with this fate, and then cycles are played.
abbrev pub ServesArrival : (frame : List ℕ) → Fate → PlayedAdapter → PlayedAdapter → List Told → Type 0
ServesArrival frame fate a b told = PacedAfter (Arrives frame fate a) b told

-- All offered frames arrive, and then cycles are played until one does nothing, up to `most_cycles`. `moved` of their steps do something.
abbrev pub ServesSettle : (moved : ℕ) → PlayedAdapter → PlayedAdapter → List Told → Type 0
ServesSettle moved a b told = Joins (AllArrive a) (λ middle rest. Settles most_cycles moved middle b rest) told

-- A number below a limit, or 0 if the limit is 0, is chosen. A number above 0 is noted.
pub record ServesChoice (limit wanted answer : ℕ) (a b : PlayedAdapter) (told : List Told) : Type 0 where
  -- the answer is the chosen number
  pub number : answer ≡ (chosen_below a.most_steps limit wanted a.generator).0
  -- only the generator may change
  pub state : b ≡ record a { generator = (chosen_below a.most_steps limit wanted a.generator).1 }
  -- the number is noted if it is above 0
  pub told_is : told ≡ noted (nat_lt 0 answer) (Choose answer)
