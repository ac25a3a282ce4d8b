-- The properties of a bus that no call over it changes. `bus : Ghosts B` contains the ghost members of `Bus` (src/bus.rt): `world`,
-- `happened`, and the others. In a clause, `B.Bus` is this record.
use Rattle.bus.specs.BusMembers.{KeepsProperties}
use Rattle.bus.specs.Law.{BusView}
use Rattle.bus.specs.declared.bus.Bus.{Ghosts}

-- The size of the bus's memory doesn't change, nor do the values that a caller lent to the bus. A bus that obeyed the law still obeys it,
-- and a bus that was lively still is. The fields are `extent`, `lent_stays`, `honest` and `lively`.
abbrev pub Keeps : {B : Type 0} → Ghosts B → B → B → Type 0
Keeps bus old new = KeepsProperties bus.extent bus.lent_stays bus.honest bus.lively old new

-- A bus as its ghost members describe it.
abbrev pub view_of : {B : Type 0} → Ghosts B → BusView B
view_of bus = record { world = bus.world; happened = bus.happened; lively = bus.lively }
