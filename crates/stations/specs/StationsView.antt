-- How `Stations` stores the stations (our choice): the machines of all hosts in one list, and the hosts' ends of wires
-- in another list.
use Rattle.std.specs.Prelude.{◌≡◌, List, [], ◌∷◌, length}
use Rattle.adapter.specs.Machines.{MachineState}
use Rattle.stations.specs.Ends.{EndState}
use Rattle.stations.specs.Stations.{StationState}
use Rattle.stations.specs.declared.stations.Stations.TheInside.{Inside}

-- The station with this machine and this end.
abbrev pub station_of : MachineState → EndState → StationState
station_of machine end = record { world = machine.world; wire = end.wire; backlog = end.backlog }

-- The stations with these machines and these ends, in order.
abbrev pub stations_of : List MachineState → List EndState → List StationState
stations_of [] ends = []
stations_of (machine ∷ machines) [] = []
stations_of (machine ∷ machines) (end ∷ ends) = station_of machine end ∷ stations_of machines ends

-- The value of `Stations` in contracts, from the fields of the struct.
abbrev pub stations_in : Inside → List StationState
stations_in inside = stations_of inside.machines.items inside.wires

-- The number of ends of wires is the number of machines.
pub record HasEndsOfWires (inside : Inside) : Type 0 where
  pub ends : length inside.wires ≡ length inside.machines.items
