-- How the sockets of a host sort the frames that the driver shows to them (our choice).
use Rattle.std.specs.Prelude.{◌≡◌, ◌≤◌, ◌+◌, List, length}
use Rattle.driver.specs.Growth.{GrowsBy}
use Rattle.driver.specs.declared.receiver.Received.{Received}
use Rattle.packet_socket.specs.HostCalls.{Queues, claimed_of, unclaimed_of}
use Rattle.packet_socket.specs.HostState.{SocketsState, all_of}

-- The sockets keep the frames that have a socket, and count the other frames. If all queues together, with the frames
-- kept, have at most `room` frames, each frame kept goes to the end of its socket's queue.
pub record Sorts (before after : SocketsState) (shown kept : List Received) : Type 0 where
  -- the sockets are the same
  pub kinds : after.kinds ≡ before.kinds
  -- the room of each queue is the same
  pub room : after.room ≡ before.room
  -- the number of queues is the same
  pub count : length after.queues ≡ length before.queues
  -- the frames kept are those that have a socket
  pub claimed : kept ≡ claimed_of before.kinds shown
  -- the frames without a socket were counted
  pub unclaimed : GrowsBy before.unclaimed after.unclaimed (unclaimed_of before.kinds shown)
  -- if there is room, the frames kept went to the ends of their sockets' queues
  pub queues : length (all_of before.queues) + length kept ≤ before.room → Queues before.kinds before.queues after.queues kept
