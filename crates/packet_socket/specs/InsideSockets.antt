-- How `Sockets` stores the sockets of a host (our choice).
use Rattle.std.specs.Prelude.{◌≡◌, List, All, length, map}
use Rattle.circular_buffer.specs.Buffer.{Buffer}
use Rattle.driver.specs.declared.receiver.Received.{Received}
use Rattle.packet_socket.specs.HostState.{SocketsState}
use Rattle.packet_socket.specs.declared.sockets.Sockets.TheInside.{Inside}

-- the entries of a queue, the oldest first
abbrev pub items_of : Buffer Received → List Received
items_of queue = queue.items

-- the state of the sockets in contracts
abbrev pub sockets_of : Inside → SocketsState
sockets_of sockets = record {
  kinds = sockets.kinds.items;
  queues = map items_of sockets.queues.items;
  room = sockets.room;
  unclaimed = sockets.unclaimed;
}

-- The invariant of `Sockets`. There is a queue for each socket. Each queue has room for `room` frames.
pub record AreConsistent (sockets : Inside) : Type 0 where
  pub queues : length sockets.queues.items ≡ length sockets.kinds.items
  pub rooms : All (λ (queue : Buffer Received). queue.capacity ≡ sockets.room) sockets.queues.items
