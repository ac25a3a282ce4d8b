-- A host with the stations of its network, and a call of a host with its ticks (our choice).
use Rattle.std.specs.Prelude.{ℕ, List}
use Rattle.packet_socket.specs.HostState.{HostState}
use Rattle.stations.specs.ToldTicks.{TickTold}
use Rattle.stations.specs.Stations.{StationState}
use Rattle.stations.specs.declared.tick.Tick.{Tick}

-- A host, and the stations of all hosts of its network, including the station of this host.
pub record ConnectedHost : Type 0 where
  -- the host
  pub host : HostState
  -- the stations of all hosts, by number
  pub stations : List StationState

-- this host, with these stations
abbrev pub connected : HostState → List StationState → ConnectedHost
connected host stations = record { host = host; stations = stations }

-- A call of a host: its ticks, what its observer was told, and its number of accesses.
pub record PlayedCall : Type 1 where
  -- the host's number
  pub caller : ℕ
  -- the ticks that are played before the accesses of the call and after its last access
  pub ticks : List Tick
  -- `heard list`: the observer was told exactly `list`, from the start of the call to the end of the call's last tick
  pub heard : List TickTold → Type 0
  -- the number of accesses of the call, which saturates at the greatest u64
  pub accesses : ℕ

-- this call, with these fields
abbrev pub played_call : (caller : ℕ) → List Tick → (heard : List TickTold → Type 0) → (accesses : ℕ) → PlayedCall
played_call caller ticks heard accesses = record { caller = caller; ticks = ticks; heard = heard; accesses = accesses }
