-- The frames that a host holds for its sockets, and what the host does in its calls (our choice).
use Rattle.std.specs.Prelude.{◌≡◌, ◌==◌, ◌≤◌, ◌<◌, ◌+◌, ◌-◌, ◌++◌, ◌∷◌, []}
use Rattle.std.specs.Prelude.{ℕ, Bool, true, List, count_by}
use Rattle.std.specs.Prelude.{All, drop, filter, flat_map, length, map, slice_set}
use Rattle.std.specs.List.Sorted.{IsPermutation}
use Rattle.dma_memory.specs.HostMemory.{bytes_at}
use Rattle.dma_memory.specs.Layout.{Counts}
use Rattle.dma_memory.specs.Owners.{HaveSameNumbers}
use Rattle.rx_filter.specs.Addresses.{ether_type}
use Rattle.adapter.specs.HostFrames.{frames_held}
use Rattle.adapter.specs.World.{World}
use Rattle.adapter.specs.bus_types.bus.Bus.{Ghosts}
use Rattle.adapter.specs.Pasts.{Past}
use Rattle.adapter.specs.bus_types.event.Access.{Access}
use Rattle.adapter.specs.Calls.{DriverDid, DriverInWorld, FlowsTo, GoesTo, IsRefilled, Moment, driver_did, driver_in}
use Rattle.adapter.specs.Calls.{stores_from, tail_write}
use Rattle.adapter.specs.DriverState.{DriverState, HandedOut, buffer_at, frame_of, holding, next_receive, piece_numbers, with_owners}
use Rattle.adapter.specs.ReadyDrivers.{ReadyWith}
use Rattle.driver.specs.HandlerSteps.{AreFramesOf, AreOfOneFrame, IsTaken, RunOfSlots}
use Rattle.driver.specs.Growth.{GrowsBy}
use Rattle.driver.specs.HandlerSteps.{ServesRing}
use Rattle.driver.specs.Growth.{count_limit}
use Rattle.driver.specs.Parts.{AreFrames, IsFrameSize, part_loads, received_of}
use Rattle.driver.specs.declared.parts.Part.{Part}
use Rattle.driver.specs.declared.receiver.Received.{Received}
use Rattle.packet_socket.specs.HostState.{HostState, all_of, host_owners, queue_at}
use Rattle.packet_socket.specs.SocketKinds.{goes_to, has_none, has_socket}
use Rattle.packet_socket.specs.declared.socket_kind.SocketKind.{SocketKind}

-- The frames that a host holds for its sockets, as bytes in memory

-- the piece of a frame in a buffer: the first `length` bytes of the buffer
abbrev pub waiting_piece : Counts → List ℕ → Part → HandedOut
waiting_piece counts memory part = record { number = part.buffer; bytes = bytes_at memory (buffer_at counts part.buffer) part.length }

-- the pieces of an entry of a queue, with the numbers of their buffers
abbrev pub waiting_pieces : Counts → List ℕ → Received → List HandedOut
waiting_pieces counts memory received = map (waiting_piece counts memory) received.parts

-- the frame of an entry of a queue: its pieces, joined in order
abbrev pub waiting_frame : Counts → List ℕ → Received → List ℕ
waiting_frame counts memory received = frame_of (waiting_pieces counts memory received)

-- The host's driver while the queues hold the pieces of the queued frames. The bytes of the pieces are those in memory.
abbrev pub driver_of : HostState → World → DriverState
driver_of host world = holding (flat_map (waiting_pieces host.driver.layout world.memory) (all_of host.queues)) host.driver

-- The host is ready, with its transmit side set up (`up`) or off: its driver is ready, and the queued frames are valid.
pub record HostReadyWith (up : Bool) (host : HostState) (world : World) : Type 0 where
  -- each queued frame has a legal length, which is the sum of the sizes of its pieces, and each piece fits into a buffer
  pub sizes : AreFrames (all_of host.queues)
  -- the driver is ready; the queues hold the pieces of the queued frames
  pub ready : ReadyWith up (driver_of host world) world

-- The host is ready, with its transmit side set up.
abbrev pub HostReady : HostState → World → Type 0
HostReady = HostReadyWith true

-- the frames queued for a socket, the oldest first
abbrev pub waiting_frames : HostState → (socket : ℕ) → World → List (List ℕ)
waiting_frames host socket world = map (waiting_frame host.driver.layout world.memory) (queue_at host.queues socket)

-- the frames of a list that go to this socket
abbrev pub socket_frames : List SocketKind → (socket : ℕ) → List (List ℕ) → List (List ℕ)
socket_frames kinds socket frames = filter (λ (frame : List ℕ). goes_to kinds socket (ether_type frame)) frames

-- the number of frames of a list that go to no socket
abbrev pub without_socket : List SocketKind → List (List ℕ) → ℕ
without_socket kinds frames = count_by (λ (frame : List ℕ). has_none kinds (ether_type frame)) frames

-- the frames that a host holds for a socket: the queued frames, then the socket's frames that the driver hasn't taken yet
abbrev pub held_for_socket : HostState → (socket : ℕ) → World → List (List ℕ)
held_for_socket host socket world =
    waiting_frames host socket world ++ socket_frames host.kinds socket (frames_held host.driver.oldest_receive world)

-- Intervals of a host's run

-- A frame that a socket returned.
pub record Given : Type 0 where
  -- the socket's number
  pub socket : ℕ
  -- the frame's bytes
  pub frame : List ℕ

-- the frames that one socket returned, in order
abbrev pub given_for : ℕ → List Given → List (List ℕ)
given_for socket given = map (λ (one : Given). one.frame) (filter (λ (one : Given). one.socket == socket) given)

-- the number of frames without a socket: those that the host has counted, and those that the driver hasn't taken yet
abbrev pub unclaimed_in : HostState → World → ℕ
unclaimed_in host world = host.unclaimed + without_socket host.kinds (frames_held host.driver.oldest_receive world)

-- The account of frames, from the host h in the world a to the host h' in the world b. The table of sockets doesn't
-- change. For each socket, the frames returned, followed by those held at the end, are those held at the beginning,
-- followed by the stored frames that go to this socket. Frames without a socket are counted, up to the greatest u64.
pub record Accounts (h : HostState) (a : World) (h' : HostState) (b : World) (given : List Given) (stored : List (List ℕ)) : Type 0 where
  -- the sockets are the same
  pub kinds : h'.kinds ≡ h.kinds
  -- for each socket, no frame is lost, duplicated or reordered
  pub sockets : (socket : ℕ) → given_for socket given ++ held_for_socket h' socket b ≡ held_for_socket h socket a
      ++ socket_frames h.kinds socket stored
  -- the count of unclaimed frames doesn't decrease
  pub least : h.unclaimed ≤ h'.unclaimed
  -- the number of frames without a socket, counted or held, grows by at most the number of such frames stored
  pub most : unclaimed_in h' b ≤ unclaimed_in h a + without_socket h.kinds stored
  -- if the count at the end is below the greatest u64, this number grows by exactly the number of such frames stored
  pub exactly : h'.unclaimed < count_limit - 1 → unclaimed_in h' b ≡ unclaimed_in h a + without_socket h.kinds stored

-- A host with its world, which is its adapter and memory, at one point of a run.
pub record HostInWorld : Type 0 where
  -- the host
  pub host : HostState
  -- its adapter and memory
  pub world : World

-- this host in this world
abbrev pub in_world : HostState → World → HostInWorld
in_world host world = record { host = host; world = world }

-- The host's driver in this world, while the queues hold the pieces of the queued frames.
abbrev pub host_driver_in : HostInWorld → DriverInWorld
host_driver_in now = driver_in (driver_of now.host now.world) now.world

-- The frames that a host took, accepted and returned.
pub record HostDid : Type 0 where
  -- the frames that the driver took and accepted
  pub driver : DriverDid
  -- the frames that the sockets returned, in order
  pub given : List Given

-- The host took, returned and accepted these frames.
abbrev pub host_did : (taken : List (List ℕ)) → (given : List Given) → (accepted : List (List ℕ)) → HostDid
host_did taken given accepted = record { driver = driver_did taken accepted; given = given }

-- no frame was taken, returned or accepted
abbrev pub did_nothing : HostDid
did_nothing = host_did [] [] []

-- what a host did in two consecutive intervals together, in order
abbrev pub did_both : (first later : HostDid) → HostDid
did_both first later =
    host_did (first.driver.taken ++ later.driver.taken) (first.given ++ later.given) (first.driver.accepted ++ later.driver.accepted)

-- An interval in which the host took, accepted and returned the frames `done`. `Holds` states what changed for the driver, with its world,
-- in this interval.
pub record HostInterval (Holds : DriverInWorld → DriverInWorld → DriverDid → Past → Type 0) (old new : HostInWorld) (done : HostDid)
    (past : Past) : Type 0 where
  -- at the end, each queued frame has a legal length, the sum of the sizes of its pieces, and each piece fits into a buffer
  pub sizes : AreFrames (all_of new.host.queues)
  -- what changed for the driver, with its world
  pub driver : Holds (host_driver_in old) (host_driver_in new) done.driver past
  -- the account of frames
  pub accounts : Accounts old.host old.world new.host new.world done.given past.stored

-- An interval of a host's run in which any register may have been read. The host is ready at the end.
abbrev pub HostFlowsTo : Bool → (old new : HostInWorld) → HostDid → Past → Type 0
HostFlowsTo up = HostInterval (FlowsTo up)

-- An interval of a host's run in which no recorded cause is cleared. The host is ready at the end.
abbrev pub HostGoesTo : Bool → (old new : HostInWorld) → HostDid → Past → Type 0
HostGoesTo up = HostInterval (GoesTo up)

-- Calls over a bus

-- The bus and the host at one point of a run.
pub record HostMoment (B : Type 0) : Type 0 where
  -- the bus
  pub bus : B
  -- the host
  pub host : HostState

-- the moment with this bus and this host
abbrev pub host_at : {B : Type 0} → B → HostState → HostMoment B
host_at bus host = record { bus = bus; host = host }

-- The bus and the host's driver at this moment, while the queues hold the pieces of the queued frames.
abbrev pub driver_at : {B : Type 0} → Ghosts B → HostMoment B → Moment B
driver_at bus now = record { bus = now.bus; driver = driver_of now.host (bus.world now.bus) }

-- The bus obeys the law, and the host is ready, with its transmit side set up or off.
pub record IsReadyHost {B : Type 0} (bus : Ghosts B) (up : Bool) (now : HostMoment B) : Type 0 where
  -- the bus obeys the law
  pub honest : bus.honest now.bus
  -- the host is ready
  pub ready : HostReadyWith up now.host (bus.world now.bus)

-- Receiving

-- The entry `received`, the oldest of a socket's queue, is removed, and no other part of the sockets changes. `size` is the entry's length.
pub record LeavesQueue (h h' : HostState) (socket size : ℕ) (received : Received) : Type 0 where
  -- the entry was the oldest of this queue
  pub oldest : queue_at h.queues socket ≡ received ∷ queue_at h'.queues socket
  -- no other queue changes
  pub others : h'.queues ≡ slice_set h.queues socket (queue_at h'.queues socket)
  -- the sockets are the same
  pub kinds : h'.kinds ≡ h.kinds
  -- the count of unclaimed frames is the same
  pub unclaimed : h'.unclaimed ≡ h.unclaimed
  -- `size` is the length of the entry
  pub long : size ≡ received.len

-- The accesses of `recv`: the frame is loaded, piece by piece, and then slots are offered with the buffers `offered`.
-- The frame's buffers may be among these buffers.
abbrev pub receive_accesses : (d d' : DriverState) → (parts : List Part) → (offered : List ℕ) → List Access
receive_accesses d d' parts offered =
    part_loads d.layout parts
    ++ (stores_from d.layout (next_receive d) offered ++ tail_write (next_receive d') (d.staged ++ offered))

-- The contract of `recv` over any bus, if `recv` returns Ok. The oldest entry of a queue is removed, the entry's buffers return to the
-- driver, and slots are offered. The caller's bytes are `into` before the call and `into'` after it.
pub record Returns (h h' : HostState) (socket : ℕ) (into into' : List ℕ) (size : ℕ) : Type 0 where
  -- the oldest entry of the queue
  pub received : Received
  -- this entry is removed from the queue, and `size` is its length
  pub leaves : LeavesQueue h h' socket size received
  -- in the driver only the owners of buffers change, and no slot is staged
  pub others : h' ≡ record h { driver = with_owners h.driver h'.driver.buffers [] h'.driver.pool []; queues = h'.queues }
  -- Each buffer has the same number of owners as before.
  pub owners : HaveSameNumbers (host_owners h) (host_owners h')
  -- the receive ring is refilled
  pub refilled : IsRefilled h'.driver
  -- the length is legal
  pub legal : IsFrameSize size
  -- the caller's bytes after the entry's length don't change
  pub rest : drop size into' ≡ drop size into

-- Handling an interrupt

-- the entries of a list that go to one socket
abbrev pub socket_entries : List SocketKind → (socket : ℕ) → List Received → List Received
socket_entries kinds socket list = filter (λ (received : Received). goes_to kinds socket received.ether_type) list

-- the entries of a list that have a socket
abbrev pub claimed_of : List SocketKind → List Received → List Received
claimed_of kinds list = filter (λ (received : Received). has_socket kinds received.ether_type) list

-- the number of entries of a list that have no socket
abbrev pub unclaimed_of : List SocketKind → List Received → ℕ
unclaimed_of kinds list = count_by (λ (received : Received). has_none kinds received.ether_type) list

-- The entries `kept` went to the ends of their sockets' queues, in order, and the queues changed in no other way.
pub record Queues (kinds : List SocketKind) (before after : List (List Received)) (kept : List Received) : Type 0 where
  -- each socket's entries went to the end of this socket's queue, in order
  pub ends : (socket : ℕ) → queue_at after socket ≡ queue_at before socket ++ socket_entries kinds socket kept
  -- no other entry was added, and no entry was removed
  pub all : IsPermutation (all_of before ++ kept) (all_of after)

-- The frames shown that have a socket went to the ends of their sockets' queues, in order. The other frames were
-- counted as unclaimed.
pub record SortsFrames (h h' : HostState) (shown : List Received) : Type 0 where
  -- the sockets are the same
  pub kinds : h'.kinds ≡ h.kinds
  -- the frames that have a socket were queued
  pub queues : Queues h.kinds h.queues h'.queues (claimed_of h.kinds shown)
  -- the frames without a socket were counted
  pub unclaimed : GrowsBy h.unclaimed h'.unclaimed (unclaimed_of h.kinds shown)

-- The contract of `interrupt` over any bus, if it returns `Handled`: runs left the driver's ring, n of them whole. The frames of the whole
-- runs were queued or counted (`SortsFrames`).
pub record HostServes (h h' : HostState) (n : ℕ) : Type 0 where
  -- the runs that left the ring
  pub runs : List RunOfSlots
  -- how the driver's state changed
  pub ring : ServesRing h.driver h'.driver runs n
  -- the frames of the whole runs
  pub shown : List Received
  pub frames : AreFramesOf runs shown
  -- these frames were queued or counted
  pub sorted : SortsFrames h h' shown
  -- Each buffer has the same number of owners as before.
  pub owners : HaveSameNumbers (host_owners h) (host_owners h')

-- n frames were taken, each a list of pieces, and queued or counted.
pub record AreSorted (n : ℕ) (h h' : HostState) (taken : List (List HandedOut)) : Type 0 where
  -- n frames were taken
  pub count : length taken ≡ n
  -- each frame has at least one buffer, and no more buffers than the longest frame needs (`AreOfOneFrame`)
  pub groups : All AreOfOneFrame (map piece_numbers taken)
  -- each frame has a legal size and fills all its buffers except the last, which contains at least one byte
  pub each : All IsTaken taken
  -- each frame was queued or counted
  pub sorted : SortsFrames h h' (map received_of taken)
