-- The state of a network: its hosts and their stations; its k-th host (our choice).
use Rattle.std.specs.Prelude.{◌≡◌, [], ℕ, false, List, None, Option, Some, slice_get, slice_set}
use Rattle.adapter.specs.Beginnings.{new_driver}
use Rattle.adapter.specs.DriverState.{DriverState}
use Rattle.packet_socket.specs.HostState.{HostState, new_host}
use Rattle.stations.specs.Stations.{StationState}
use Rattle.host_calls.specs.ConnectedHosts.{ConnectedHost, connected}

-- The hosts of a network, numbered from 0, and their stations. Station k belongs to host k.
pub record NetworkState : Type 0 where
  -- the hosts, by number
  pub hosts : List HostState
  -- the stations of the hosts, by the number of the host
  pub stations : List StationState

-- The network has a host k, and this host is host k.
abbrev pub IsHost : NetworkState → (k : ℕ) → HostState → Type 0
IsHost network k host = slice_get network.hosts k ≡ Some host

-- The driver of a host that doesn't exist: a driver without slots, buffers and groups.
abbrev pub no_driver : DriverState
no_driver = new_driver (record { rx = 0; tx = 0; buffers = 0 })
    (record { rxa = 0; promiscuous = false; by_vlan = false; vlans = []; address = [] }) [] []

-- This host; for `None`, a host with `no_driver` and without sockets.
abbrev pub host_or_empty : Option HostState → HostState
host_or_empty None = new_host no_driver []
host_or_empty (Some host) = host

-- Host k of the network; if there is no host k, a host with `no_driver` and without sockets.
abbrev pub nth_host : NetworkState → (k : ℕ) → HostState
nth_host network k = host_or_empty (slice_get network.hosts k)

-- host k (`nth_host`), with the stations of all hosts
abbrev pub connected_at : NetworkState → (k : ℕ) → ConnectedHost
connected_at network k = connected (nth_host network k) network.stations

-- Of the hosts in `old.hosts`, at most host k changes, and no host is added or removed. Stations may change.
abbrev pub OnlyHostChanges : (k : ℕ) → (old new : NetworkState) → Type 0
OnlyHostChanges k old new = new.hosts ≡ slice_set old.hosts k (nth_host new k)
