-- A drain of a host: what the drain requires, the counts of the host's frames and pieces, and the drain's effect (our
-- choice).
use Rattle.std.specs.Prelude.{◌≡◌, ◌≢◌, ◌≤◌, ◌+◌, ◌-◌, ◌*◌, ◌/◌, ◌<◌, ◌⊎◌, ◌++◌, ◌∷◌}
use Rattle.std.specs.Prelude.{[]}
use Rattle.std.specs.Prelude.{ℕ, All, IsTrue, List, length, replicate}
use Rattle.std.specs.Prelude.{sum_by}
use Rattle.registers.specs.Bits.{HasBit}
use Rattle.registers.specs.Counting.{greatest_count}
use Rattle.registers.specs.Places.{rctl_en}
use Rattle.dma_memory.specs.Layout.{receive_buffer_bytes}
use Rattle.adapter.specs.HostFrames.{frames_held, frames_to_send}
use Rattle.adapter.specs.Slots.{slots_in_work}
use Rattle.adapter.specs.World.{World}
use Rattle.adapter.specs.model_types.step.StepKind.TheVariants.{RxData, RxDone}
use Rattle.adapter.specs.bus_types.event.Event.TheVariants.{Accesses, Arrives, Steps}
use Rattle.stations.specs.AtomicSteps.{At, AtomicStep, Idles}
use Rattle.stations.specs.Stations.{StationState, backlog_at, world_at}
use Rattle.stations.specs.AtomicRuns.{LeadsTo}
use Rattle.host_calls.specs.Happenings.{Moved, happened_in}
use Rattle.adapter.specs.Calls.{HasNoForgottenWork, IsRefilled, sum_limit}
use Rattle.driver.specs.Growth.{GrowsBy}
use Rattle.driver.specs.declared.receiver.Received.{Received}
use Rattle.packet_socket.specs.HostCalls.{Given, HostReady, host_did, given_for, held_for_socket, without_socket}
use Rattle.packet_socket.specs.HostState.{HostState, all_of}
use Rattle.host_calls.specs.CallsOfHosts.{GroupsStay, HostRuns}
use Rattle.host_calls.specs.ConnectedHosts.{ConnectedHost}

-- What a drain requires of a host: the host is ready, no work is forgotten, the receive ring is refilled, no slot is
-- staged, and RCTL.EN is set.
pub record CanBeDrained (host : HostState) (world : World) : Type 0 where
  pub ready : HostReady host world
  pub work : HasNoForgottenWork host.driver world
  pub refilled : IsRefilled host.driver
  pub offered : host.driver.staged ≡ []
  pub enabled : HasBit world.adapter.filter.rctl rctl_en

-- Counts

-- the number of frames that a host holds: in its receive ring, in its receive packet buffer, and in its sockets' queues
abbrev pub count_frames : HostState → World → ℕ
count_frames host world = length (frames_held host.driver.oldest_receive world) + length (all_of host.queues)

-- the number of receive buffers that a frame of this size needs, which is the number of its pieces
abbrev pub buffers_for : (size : ℕ) → ℕ
buffers_for size = (size + (receive_buffer_bytes - 1)) / receive_buffer_bytes

-- the number of pieces of these frames
abbrev pub count_pieces : List (List ℕ) → ℕ
count_pieces frames = sum_by (λ (frame : List ℕ). buffers_for (length frame)) frames

-- the number of pieces of these queued frames
abbrev pub count_queued_pieces : List Received → ℕ
count_queued_pieces list = sum_by (λ (received : Received). buffers_for received.len) list

-- the number of pieces of all frames that a host holds
abbrev pub count_held : HostState → World → ℕ
count_held host world = count_pieces (frames_held host.driver.oldest_receive world) + count_queued_pieces (all_of host.queues)

-- the number of pieces of these frames that are still to be moved, if `moved` bytes of the first frame have been moved
abbrev pub pieces_left : (moved : ℕ) → List (List ℕ) → ℕ
pieces_left moved [] = 0
pieces_left moved (frame ∷ later) = buffers_for (length frame - moved) + count_pieces later

-- the number of pieces of the frames in the packet buffer that are still to be moved
abbrev pub count_left : World → ℕ
count_left world = pieces_left world.adapter.receiver.moved world.adapter.receiver.buffer

-- the number of adapter steps in a drain of a host: two for each piece still to be moved, and one for a piece in
-- progress
abbrev pub count_adapter_steps : World → ℕ
count_adapter_steps world = 2 * count_left world + length (slots_in_work world)

-- The host holds no frame for its sockets.
pub record HoldsNothing (host : HostState) (world : World) : Type 0 where
  -- no frame is in the receive ring or in the receive packet buffer
  pub held : frames_held host.driver.oldest_receive world ≡ []
  -- no frame waits in a socket's queue
  pub queued : all_of host.queues ≡ []

-- The atomic step is an access of the host, or RxData or RxDone of its adapter.
abbrev pub IsDrainStep : (number : ℕ) → AtomicStep → Type 0
IsDrainStep number (At host (Accesses access)) = host ≡ number
IsDrainStep number (At host (Steps kind wire_free answer)) = (host ≡ number) × ((kind ≡ RxData) ⊎ (kind ≡ RxDone))
IsDrainStep number (At host (Arrives frame fate)) = ⊥
IsDrainStep number (Idles tick) = ⊥

-- The count of missed frames doesn't change: the driver's sum plus MPC, up to the greatest u64. An exact count remains
-- exact.
pub record KeepsMisses (h : HostState) (a : World) (h' : HostState) (b : World) : Type 0 where
  -- a sum that fits into a u64 doesn't change
  pub sum : h.driver.missed + a.adapter.missed_packets < sum_limit
      → h'.driver.missed + b.adapter.missed_packets ≡ h.driver.missed + a.adapter.missed_packets
  -- a sum of at least the greatest u64 remains at least the greatest u64
  pub sticks : sum_limit - 1 ≤ h.driver.missed + a.adapter.missed_packets → sum_limit - 1 ≤ h'.driver.missed + b.adapter.missed_packets
  -- The driver's sum remains exact, and MPC remains below its greatest value. Both must be true at the beginning, and
  -- the sum plus MPC must fit into a u64.
  pub exact :
      IsTrue h.driver.exact → a.adapter.missed_packets < greatest_count → h.driver.missed + a.adapter.missed_packets < sum_limit
      → IsTrue h'.driver.exact × (b.adapter.missed_packets < greatest_count)

-- Bounds of the number `steps` of a drain's steps, in which `given` frames were returned.
pub record AreStepsOf (steps number given : ℕ) (old : ConnectedHost) : Type 0 where
  -- at most four for each piece of the frames that the host held before the drain, plus one
  pub at_most : steps ≤ 4 * count_held old.host (world_at old.stations number) + 1
  -- at least the adapter's steps (`count_adapter_steps`), plus one for each frame returned
  pub at_least : count_adapter_steps (world_at old.stations number) + given ≤ steps

-- The drained host's frames to be sent, the frames that wait at ends of wires, and every other host's adapter and
-- memory don't change.
pub record KeepsOthers (number : ℕ) (old new : List StationState) : Type 0 where
  -- the drained host's frames to be sent don't change
  pub to_send : frames_to_send (world_at new number) ≡ frames_to_send (world_at old number)
  -- the frames that wait at the ends of wires don't change
  pub lines : (k : ℕ) → backlog_at new k ≡ backlog_at old k
  -- every other host's adapter and memory don't change
  pub others : (k : ℕ) → k ≢ number → world_at new k ≡ world_at old k

-- The atomic steps of a drain: what the host did, and that each frame in the receive packet buffer was moved to
-- memory.
pub record GoesBy (number : ℕ) (given : List Given) (old new : ConnectedHost) : Type 0 where
  -- the atomic steps
  pub played : List AtomicStep
  -- the steps lead from the stations before the drain to those after it
  pub leads : LeadsTo number played old.stations new.stations
  -- each step is an access of the host, or RxData or RxDone of its adapter
  pub only : All (IsDrainStep number) played
  -- the frames that the driver took
  pub taken : List (List ℕ)
  -- what the host did
  pub runs : HostRuns number played (host_did taken given []) old new
  -- no group is joined or left
  pub stay : GroupsStay number played old new
  -- each frame of the receive packet buffer was moved to memory, and there is no other happening
  pub moved : happened_in played ≡ replicate (length (world_at old.stations number).adapter.receiver.buffer) (Moved number)

-- A drain of host `number`: its sockets returned the frames `given`, in `steps` steps.
pub record Drains (steps number : ℕ) (given : List Given) (old new : ConnectedHost) : Type 0 where
  -- the bounds of the number of steps
  pub steps_are : AreStepsOf steps number (length given) old
  -- Each socket returned exactly the frames that were held for it, in order.
  pub all_given : (socket : ℕ) → given_for socket given ≡ held_for_socket old.host socket (world_at old.stations number)
  -- no frame is held, and every queue is empty
  pub nothing_left : HoldsNothing new.host (world_at new.stations number)
  -- The frames without a socket were counted, up to the greatest u64.
  pub unclaimed : GrowsBy old.host.unclaimed new.host.unclaimed
      (without_socket old.host.kinds (frames_held old.host.driver.oldest_receive (world_at old.stations number)))
  -- the drained host's frames to be sent, the frames that wait at ends of wires, and other hosts' adapters and
  -- memories don't change
  pub keeps : KeepsOthers number old.stations new.stations
  -- the count of missed frames doesn't change, and an exact count remains exact
  pub misses : KeepsMisses old.host (world_at old.stations number) new.host (world_at new.stations number)
  -- the atomic steps of the drain
  pub by : GoesBy number given old new

-- The frames that sockets returned in a drain were appended to the frames in the sink.
pub record DrainsInto (steps number : ℕ) (before after : List Given) (old new : ConnectedHost) : Type 0 where
  pub given : List Given
  pub appended : after ≡ before ++ given
  pub drains : Drains steps number given old new
