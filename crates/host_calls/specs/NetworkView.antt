-- The value of a `Network` from its private fields, and the invariant of these fields (our choice).
use Rattle.std.specs.Prelude.{◌≡◌, length}
use Rattle.host_calls.specs.Networks.{NetworkState}
use Rattle.host_calls.specs.declared.network.Network.TheInside.{Inside}

-- the value of a `Network` in contracts
abbrev pub network_in : Inside → NetworkState
network_in inside = record { hosts = inside.hosts.items; stations = inside.stations }

-- there are equally many hosts and stations
pub record HasStations (inside : Inside) : Type 0 where
  pub same : length inside.stations ≡ length inside.hosts.items
