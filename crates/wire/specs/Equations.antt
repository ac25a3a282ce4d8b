-- The equations of delivery, and what holds of each host before and after each event (our choice). Begin with parts 3
-- and 4, which use the names that parts 1 and 2 define. A name from another crate is explained at the field that uses
-- it. docs/CONTRACTS, "To review `Lan::run`", names the files that define these names.
-- 1. The count of misses, and when it is exact: `IsExact`.
-- 2. The equations that have several fields: `CountsMisses`, `SendsDue`, `CountsUnclaimed`, `KeepsCome`, `KeepsPlan`.
-- 3. The equations of one host between two states of a network, one in each field: `MeetsEquations`.
-- 4. What holds of each host before and after each event: `HostStands`, `NetworkStands`. h and h' are a host in the
--    first and in the second state, a and b its worlds. A world is an adapter with its host's memory. A station is a
--    world with its host's end of a wire. `happened` is the list of what happened to frames, joined groups and the
--    receive side between the two states (`happenings` of specs/Runs).
use Rattle.std.specs.Prelude.{◌≡◌, ◌≤◌, ◌<◌, ◌+◌, ◌-◌, ◌^◌, ◌++◌, [], ℕ, IsTrue, List, length, min}
use Rattle.registers.specs.Counting.{greatest_count}
use Rattle.dma_memory.specs.Owners.{HasOneOwner}
use Rattle.adapter.specs.HostFrames.{frames_held, frames_to_send}
use Rattle.adapter.specs.State.{IsAdapter}
use Rattle.adapter.specs.World.{World}
use Rattle.bring_up.specs.ConfiguredAdapters.{HasSetup}
use Rattle.adapter.specs.DriverState.{owners}
use Rattle.adapter.specs.Calls.{HasNoForgottenWork, IsRefilled}
use Rattle.bring_up.specs.Groups.{HasTable}
use Rattle.stations.specs.Stations.{StationState, backlog_at, wire_at, world_at}
use Rattle.packet_socket.specs.HostCalls.{HostReady, driver_of, held_for_socket, socket_frames, unclaimed_in, waiting_frames}
use Rattle.packet_socket.specs.HostCalls.{without_socket}
use Rattle.packet_socket.specs.HostState.{HostState}
use Rattle.host_calls.specs.CountedHosts.{CanAnswer}
use Rattle.host_calls.specs.Fates.{marks}
use Rattle.host_calls.specs.Happenings.{Happening, given, missed, put, reached, toward}
use Rattle.host_calls.specs.Lists.{AreDue, HaveCome}
use Rattle.host_calls.specs.Reception.{ReceivesRightly, SameButGroups}
use Rattle.host_calls.specs.Networks.{IsHost, NetworkState}

-- 1. Missed frames

-- the greatest count of missed frames, and of frames without a socket: the greatest u64
abbrev pub most_counted : ℕ
most_counted = 2 ^ 64 - 1

-- the driver's sum of missed frames, plus MPC
abbrev pub sum_of : HostState → World → ℕ
sum_of host world = host.driver.missed + world.adapter.missed_packets

-- the count of missed frames of a host: the driver's sum plus MPC, up to the greatest u64
abbrev pub missed_count : HostState → World → ℕ
missed_count host world = min (sum_of host world) most_counted

-- The count of missed frames is exact: no read of MPC returned MPC's greatest value, at which MPC saturates. MPC doesn't have this value
-- now, and no sum saturated. `greatest_count` is this greatest value.
pub record IsExact (host : HostState) (world : World) : Type 0 where
  -- the driver's `exact`: no read of MPC returned MPC's greatest value, and the driver's sum never saturated
  pub exact : IsTrue host.driver.exact
  -- MPC is below its greatest value
  pub below_greatest : world.adapter.missed_packets < greatest_count
  -- the driver's sum plus MPC doesn't saturate
  pub fits : sum_of host world ≤ most_counted

-- 2. The equations with more than one field

-- The count of missed frames grows by at most the number of missed frames. If the count is exact at the end, it was
-- exact at the beginning, and grew by exactly this number.
pub record CountsMisses (h : HostState) (a : World) (misses : ℕ) (h' : HostState) (b : World) : Type 0 where
  -- the count grew by at most the number of missed frames
  pub at_most : missed_count h' b ≤ missed_count h a + misses
  -- if the count is exact at the end, it was exact at the beginning, and grew by exactly the number of missed frames
  pub exactly : IsExact h' b → IsExact h a × (missed_count h' b ≡ missed_count h a + misses)
  -- An exact count remains exact if MPC plus the number of missed frames is below MPC's greatest value, and the sum
  -- plus this number is at most the greatest u64. A handled interrupt clears MPC, so this field of each event states
  -- more than this field of all events together.
  pub stays : IsExact h a → a.adapter.missed_packets + misses < greatest_count → sum_of h a + misses ≤ most_counted → IsExact h' b
  -- The driver's sum doesn't decrease.
  pub grows : h.driver.missed ≤ h'.driver.missed

-- The frames put on the wire, and then those still to be sent, are the frames that are due. `frames_to_send`: the
-- frames in the transmit packet buffer, and then those of the descriptors from TDH up to, but not including, TDT. These
-- frames are padded with zeros to 60 bytes.
pub record SendsDue (k : ℕ) (happened : List Happening) (a b : World) : Type 0 where
  -- all frames that are due
  pub due : List (List ℕ)
  -- the frames that were to be sent at the beginning, and then those accepted, padded, without those that a reset
  -- dropped from the end of this list
  pub are : AreDue k (frames_to_send a) happened due
  -- the frames put, and then those still to be sent, are the frames due
  pub sent : put k happened ++ frames_to_send b ≡ due

-- Frames without a socket are counted, up to the greatest u64, or are still held. `frames` is the number of frames
-- without a socket that have come. `unclaimed_in` is the count (`unclaimed`), plus the number of held frames without a
-- socket.
pub record CountsUnclaimed (h : HostState) (frames : ℕ) (h' : HostState) (b : World) : Type 0 where
  -- the count doesn't decrease
  pub least : h.unclaimed ≤ h'.unclaimed
  -- the number of frames counted and held is at most the number of frames counted before, plus the number that have
  -- come
  pub most : unclaimed_in h' b ≤ h.unclaimed + frames
  -- these numbers are equal, unless the count at the end is the greatest u64
  pub exactly : h'.unclaimed < most_counted → unclaimed_in h' b ≡ h.unclaimed + frames

-- The frames that have come were returned by their sockets, were counted, or are still held. `frames_held`: the frames
-- in the receive ring, and then those in the receive packet buffer. A frame is in the ring if its last piece is in a
-- finished slot or in progress; otherwise the whole frame is in the packet buffer. `socket_frames`: the frames of a
-- list that go to a socket. A frame goes to the first socket for its EtherType, else to the first socket for all
-- frames, else to no socket. `without_socket`: the number of frames of a list that go to no socket.
pub record KeepsCome (k : ℕ) (happened : List Happening) (h : HostState) (a : World) (h' : HostState) (b : World) : Type 0 where
  -- all frames that have come
  pub came : List (List ℕ)
  -- the frames that were held at the beginning, and then those stored, without those that a reset dropped from the end
  -- of this list
  pub have_come : HaveCome k (frames_held h.driver.oldest_receive a) happened came
  -- the frames that the driver took off the receive ring
  pub taken : List (List ℕ)
  -- the frames that have come are those taken off the ring, and then those still held
  pub took : came ≡ taken ++ frames_held h'.driver.oldest_receive b
  -- The frames that a socket returned, and then those still held for it, are those that were in its queue, and then
  -- those of `came` that go to it. `held_for_socket`: the frames in the socket's queue, and then those held that go to
  -- it.
  pub given_is_kept : (socket : ℕ) → given k socket happened ++ held_for_socket h' socket b
      ≡ waiting_frames h socket a ++ socket_frames h.kinds socket came
  -- The frames of `came` that go to no socket are counted, unless the count saturates, or are still held.
  pub unclaimed_is_counted : CountsUnclaimed h (without_socket h.kinds came) h' b

-- Parts of the plan that don't change. `wire_at stations k` is the number of the k-th host's wire, and `world_at
-- stations k` is the k-th host's world.
pub record KeepsPlan (k : ℕ) (old new : List StationState) (h h' : HostState) : Type 0 where
  -- the wire
  pub wire : wire_at new k ≡ wire_at old k
  -- the table of sockets
  pub kinds : h'.kinds ≡ h.kinds
  -- the number of slots of each ring, and the number of receive buffers
  pub layout : h'.driver.layout ≡ h.driver.layout
  -- the registers of the receive filter, except MTA (`SameButGroups`)
  pub filter : SameButGroups (world_at old k).adapter.filter (world_at new k).adapter.filter
  -- the size of the receive packet buffer
  pub kilobytes : (world_at new k).adapter.receive_kilobytes ≡ (world_at old k).adapter.receive_kilobytes

-- 3. The equations. The lists of a host (`put`, `reached`, `given`, `toward`) are parts of what happened, in order.

-- The equations of the k-th host between two states, if `happened` happened in between.
pub record MeetsEquations (k : ℕ) (happened : List Happening) (old new : List StationState) (h h' : HostState) : Type 0 where
  -- the wire, the sockets, the filter except the joined groups, and the sizes don't change
  pub plan_is_kept : KeepsPlan k old new h h'
  -- Each frame to be sent at the beginning was put on the wire, is still to be sent, or was dropped by a reset. The
  -- same is true of each accepted frame, padded.
  pub sent_is_accepted : SendsDue k happened (world_at old k) (world_at new k)
  -- The frames that reached the host, and then those that still wait at its end (`backlog_at`), are those that waited,
  -- and then those put toward the host by others (`toward`).
  pub reached_is_put : reached k happened ++ backlog_at new k ≡ backlog_at old k ++ toward (wire_at old) k happened
  -- Each frame held at the beginning was returned by its socket, was counted, is still held, or was dropped by a
  -- reset. The same is true of each stored frame.
  pub stored_is_kept : KeepsCome k happened h (world_at old k) h' (world_at new k)
  -- Each frame that reached the host has the first fate that applies: Off (a reset had disabled the receive side),
  -- Illegal (fewer than 60 or more than 1,518 bytes), Filtered, Missed (the receive packet buffer had no room for the
  -- frame), Stored. There is room for a frame if the frames in the buffer and this frame occupy at most the buffer's
  -- size (`HasRoomFor`). The buffer contains the frames of the beginning, and then those stored since, without those
  -- moved to memory or dropped by a reset (`ReceivesRightly`). The filter is the one in force when the frame arrives:
  -- its groups are those joined at the beginning, changed by each join and leave since (`in_force`). `marks`: in order,
  -- each frame that reached the host with its fate, each move of the oldest frame to memory, each group that was joined
  -- or left, and what resets did. Without a join or a leave, MTA doesn't change.
  pub fates_are_right : ReceivesRightly h.driver.groups (world_at old k).adapter (marks k happened) h'.driver.groups
      (world_at new k).adapter
  -- missed frames are counted, unless a counter saturates
  pub misses_are_counted : CountsMisses h (world_at old k) (missed k happened) h' (world_at new k)

-- 4. What holds of a network before and after each event

-- If the driver's sum of missed frames is below 0xFFFFFFFF, this sum is exact. If the count of missed frames is below
-- 0xFFFFFFFF, this count is exact.
pub record CountsExactly (host : HostState) (world : World) : Type 0 where
  -- a driver's sum below 0xFFFFFFFF is exact
  pub reads : host.driver.missed < greatest_count → IsTrue host.driver.exact
  -- a count below 0xFFFFFFFF is exact
  pub counts : missed_count host world < greatest_count → IsExact host world

-- What holds of a host before and after each event of its network.
pub record HostStands (host : HostState) (world : World) : Type 0 where
  -- The driver is ready. Each frame in a socket's queue has 60 to 1,518 bytes, in pieces that fit into their buffers.
  pub ready : HostReady host world
  -- No work is forgotten: RXT0 is set in IMS. If a frame ends in the finished receive slots (with DD, and not yet taken
  -- by the driver), RXT0 is set in ICR.
  pub work : HasNoForgottenWork host.driver world
  -- No buffer is free, or all receive slots except one are outstanding.
  pub refilled : IsRefilled host.driver
  -- no slot is staged
  pub offered : host.driver.staged ≡ []
  -- the adapter has the driver's setup: RCTL, VFTA, VET, the receive addresses, and RXA of PBA
  pub set_up : HasSetup host.driver.setup world.adapter
  -- MTA has exactly the bits of the joined groups
  pub groups : HasTable host.driver.groups world
  -- both sides of the adapter are enabled, and each head and tail is the index of a slot of its ring
  pub can : CanAnswer world.adapter
  -- Each buffer has exactly one owner: the pool, a slot of the receive ring, or a socket's queue. In `driver_of`, the
  -- queues are owners.
  pub one_owner : HasOneOwner host.driver.layout.buffers (owners (driver_of host world))
  -- fewer frames are to be sent than the transmit ring has slots
  pub sends_at_most : length (frames_to_send world) + 1 ≤ host.driver.layout.tx
  -- a count of missed frames below 0xFFFFFFFF is exact
  pub exact : CountsExactly host world

-- `HostStands` and `IsAdapter` hold for each host of the network. `IsHost network k host`: the k-th host, from 0, is
-- `host`.
pub record NetworkStands (network : NetworkState) : Type 0 where
  -- the number of stations is the number of hosts
  pub same : length network.stations ≡ length network.hosts
  -- `HostStands` holds for each host
  pub each : (k : ℕ) (host : HostState) → IsHost network k host → HostStands host (world_at network.stations k)
  -- the registers and the engines of each adapter have values that are possible in an adapter, and its EEPROM has 64
  -- words (`IsAdapter`)
  pub adapters : (k : ℕ) (host : HostState) → IsHost network k host → IsAdapter (world_at network.stations k).adapter
