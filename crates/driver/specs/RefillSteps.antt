-- How a driver stages and offers receive slots, and takes back the buffers of frames.
use Rattle.std.specs.Prelude.{◌≡◌, ◌++◌, ℕ, Bool, List}
use Rattle.dma_memory.specs.Owners.{HaveSameNumbers}
use Rattle.adapter.specs.Calls.{IsReadyOver, Moment, Ran, Runs, held_at, only, stores_from, tail_write}
use Rattle.adapter.specs.bus_types.bus.Bus.{Ghosts}
use Rattle.adapter.specs.DriverState.{DriverState, HandedOut, next_receive, piece_numbers, with_owners}
use Rattle.driver.specs.Parts.{buffers_in}
use Rattle.driver.specs.declared.parts.Part.{Part}

-- The next slots were staged with the buffers `numbers` of the pool. If the bus obeys the law and the driver is ready,
-- the accesses are exactly the stores of these slots' descriptors, in order.
pub record Stages {B : Type 0} (bus : Ghosts B) (numbers : List ℕ) (old new : Moment B) : Type 0 where
  pub others :
      new.driver ≡ with_owners old.driver old.driver.buffers (old.driver.staged ++ numbers) new.driver.pool old.driver.handed_out
  pub pool : HaveSameNumbers old.driver.pool (numbers ++ new.driver.pool)
  pub ran : Runs bus (only (stores_from old.driver.layout (next_receive old.driver) numbers)) old new

-- Any number of slots, possibly none, were staged with buffers of the pool.
pub record StagesSome {B : Type 0} (bus : Ghosts B) (old new : Moment B) : Type 0 where
  pub numbers : List ℕ
  pub stages : Stages bus numbers old new

-- The slots that were staged before were offered, and then new slots with the buffers `numbers`. The accesses are the
-- stores of the new slots' descriptors, and then one write of RDT if there are staged or new slots.
pub record Refills {B : Type 0} (bus : Ghosts B) (up : Bool) (old new : Moment B) : Type 0 where
  pub numbers : List ℕ
  pub offered : new.driver.buffers ≡ old.driver.buffers ++ (old.driver.staged ++ numbers)
  pub ran :
      Ran bus up (only (stores_from old.driver.layout (next_receive old.driver) numbers
      ++ tail_write (next_receive new.driver) (old.driver.staged ++ numbers))) old new

-- Over any bus: after the outstanding slots, the staged slots are offered, and then slots with the buffers `offered`
-- of the pool.
pub record OffersAfter (d d' : DriverState) : Type 0 where
  pub offered : List ℕ
  pub newest : d'.buffers ≡ d.buffers ++ (d.staged ++ offered)
  pub pool : HaveSameNumbers d.pool (offered ++ d'.pool)

-- `Holds` relates the moments before and after a call that takes back the buffers of a frame's pieces. The bus must obey the law, and the
-- driver must be ready while others hold pieces in these buffers. After the call, others hold only the remaining pieces.
abbrev pub WhereHeld : {B : Type 0} → Ghosts B → List Part → (old new : Moment B) → (Bool → Moment B → Moment B → Type 0) → Type 0
WhereHeld bus parts old new Holds =
    (up : Bool) (first pieces later : List HandedOut) → piece_numbers pieces ≡ buffers_in parts
    → IsReadyOver bus up (held_at (first ++ (pieces ++ later)) old)
    → Holds up (held_at (first ++ (pieces ++ later)) old) (held_at (first ++ later) new)
