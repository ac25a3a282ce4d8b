-- The state of a host as plain data (our choice).
use Rattle.std.specs.Prelude.{◌≡◌, ◌++◌, ◌∷◌, ℕ, List, [], length, replicate, slice_index_or}
use Rattle.driver.specs.declared.receiver.Received.{Received}
use Rattle.bring_up.specs.declared.config.Config.{Config}
use Rattle.driver.specs.Initialisation.{IsFresh}
use Rattle.adapter.specs.DriverState.{DriverState, owners}
use Rattle.driver.specs.Parts.{buffers_of}
use Rattle.packet_socket.specs.declared.socket_kind.SocketKind.{SocketKind}

-- the queue of a socket; empty if there is no such socket
abbrev pub queue_at : List (List Received) → ℕ → List Received
queue_at queues socket = slice_index_or queues socket []

-- the frames of all queues, those of the first queue first
abbrev pub all_of : List (List Received) → List Received
all_of [] = []
all_of (queue ∷ later) = queue ++ all_of later

-- The sockets of a host, their queues, and the count of frames without a socket.
pub record SocketsState : Type 0 where
  -- the table of sockets
  pub kinds : List SocketKind
  -- the frames queued for each socket, the oldest first
  pub queues : List (List Received)
  -- the number of frames that each queue has room for
  pub room : ℕ
  -- the number of received frames without a socket; this number saturates at the greatest u64
  pub unclaimed : ℕ

-- The state of a host: its driver, its sockets, the frames queued for them, and the count of frames without a socket.
pub record HostState : Type 0 where
  -- the driver's state; for a `Host`, `handed_out` is empty
  pub driver : DriverState
  -- the table of sockets
  pub kinds : List SocketKind
  -- the frames queued for each socket, the oldest first
  pub queues : List (List Received)
  -- the number of received frames without a socket; this number saturates at the greatest u64
  pub unclaimed : ℕ

-- The numbers of all buffers by owner: the owners in the driver's state, and then the queued frames.
abbrev pub host_owners : HostState → List ℕ
host_owners host = owners host.driver ++ buffers_of (all_of host.queues)

-- A host with empty queues that has counted no frame.
abbrev pub new_host : DriverState → List SocketKind → HostState
new_host driver kinds = record { driver = driver; kinds = kinds; queues = replicate (length kinds) []; unclaimed = 0 }

-- The state of a host that `new` returns, over any bus.
pub record IsNewHost (config : Config) (kinds : List SocketKind) (host : HostState) : Type 0 where
  -- the queues are empty, and no frame is counted
  pub new : host ≡ new_host host.driver kinds
  -- the driver is as `Driver::init` returns it
  pub fresh : IsFresh config host.driver
