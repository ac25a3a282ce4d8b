-- How `Host` stores its state (our choice).
use Rattle.std.specs.Prelude.{◌≡◌, ◌++◌, length}
use Rattle.dma_memory.specs.Owners.{HasNoSecondOwner}
use Rattle.adapter.specs.DriverState.{DriverState, owners}
use Rattle.driver.specs.Parts.{AreFrames, buffers_of}
use Rattle.packet_socket.specs.HostState.{HostState, SocketsState, all_of}
use Rattle.packet_socket.specs.declared.host.Host.TheInside.{Inside}

-- the host with this driver and these sockets
abbrev pub host_with : DriverState → SocketsState → HostState
host_with driver sockets = record { driver = driver; kinds = sockets.kinds; queues = sockets.queues; unclaimed = sockets.unclaimed }

-- the host's state in contracts
abbrev pub host_inside : Inside → HostState
host_inside host = host_with host.driver host.sockets

-- What always holds of the driver and the sockets of a host. Each queued frame has a legal length, which is the sum of the sizes of its
-- pieces, and each piece fits into a buffer.
pub record AreOfHost (driver : DriverState) (sockets : SocketsState) : Type 0 where
  -- each queue has room for all buffers
  pub room : sockets.room ≡ driver.layout.buffers
  -- there is a queue for each socket
  pub count : length sockets.queues ≡ length sockets.kinds
  -- no buffer has two owners; the queues count as owners
  pub owners : HasNoSecondOwner driver.layout.buffers (owners driver ++ buffers_of (all_of sockets.queues))
  -- the lengths of each queued frame and of its pieces are valid
  pub sizes : AreFrames (all_of sockets.queues)

-- The invariant of `Host`: what always holds of its fields.
abbrev pub IsConsistentHost : Inside → Type 0
IsConsistentHost host = AreOfHost host.driver host.sockets
