-- The ghost members of a lent bus, for contracts of calls over this bus.
use Rattle.std.specs.Prelude.{⊤}
use Rattle.adapter.specs.bus_types.bus.Bus.{Ghosts}
use Rattle.stations.specs.LentBuses.{HappenedLent, SameLent, bytes_here, world_here}
use Rattle.stations.specs.declared.lent_bus.LentBus.{LentBus}
use Rattle.stations.specs.declared.observer.Observer.{Ghosts as OfObserver}

-- the ghost members of a lent bus: each lent bus obeys the bus law, and none is lively
abbrev pub lent : {O : Type 0} {g : OfObserver O} → Ghosts (LentBus O g)
lent = record {
  extent = bytes_here;
  honest = λ bus. ⊤;
  lively = λ bus. ⊥;
  world = world_here;
  happened = HappenedLent;
  lent_stays = SameLent;
}
