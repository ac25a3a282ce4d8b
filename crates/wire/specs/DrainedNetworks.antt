-- A network after a drain of one host (our choice).
use Rattle.std.specs.Prelude.{◌≡◌, ◌≢◌, ◌↔◌, ◌≤◌, ◌++◌, [], ℕ, List, length, map, replicate, slice_get}
use Rattle.packet_socket.specs.HostState.{HostState}
use Rattle.packet_socket.specs.HostCalls.{Given as GivenFrame}
use Rattle.stations.specs.Stations.{world_at}
use Rattle.host_calls.specs.Happenings.{Given, Happening, Moved}
use Rattle.adapter.specs.World.{World}
use Rattle.host_calls.specs.ConnectedHosts.{connected}
use Rattle.host_calls.specs.DrainedHosts.{Drains}
use Rattle.wire.specs.Equations.{MeetsEquations, IsExact, NetworkStands, missed_count}
use Rattle.host_calls.specs.Networks.{IsHost, NetworkState}

-- The happenings of a drain of host `host`: `moves` frames were moved from its receive packet buffer to memory, and its
-- sockets returned the frames `given`. In this list, all moves come before all returned frames, whatever their order in
-- the drain was.
abbrev pub said_of_drain : (host moves : ℕ) → List GivenFrame → List Happening
said_of_drain host moves given = replicate moves (Moved host) ++ map (λ (one : GivenFrame). Given host one.socket one.frame) given

-- The count of missed frames doesn't change, nor whether this count is exact.
pub record KeepsCount (h : HostState) (a : World) (h' : HostState) (b : World) : Type 0 where
  -- the count is the same
  pub counted : missed_count h' b ≡ missed_count h a
  -- the count is exact if and only if it was exact before
  pub exact : IsExact h' b ↔ IsExact h a

-- The number of hosts doesn't change. Every host except host `host` has the same `HostState`: driver, sockets, queues
-- and count of frames without a socket.
pub record OtherHostsStay (host : ℕ) (old new : List HostState) : Type 0 where
  -- the number of hosts is the same
  pub count : length new ≡ length old
  -- the state of every other host is the same
  pub same : (k : ℕ) → k ≢ host → slice_get new k ≡ slice_get old k

-- The contract of `Lan::drain`. If host `host` exists, it was drained in `steps` steps. The frames that its sockets
-- returned were appended to the frames in the sink.
pub record NetworkDrains (old : NetworkState) (host steps : ℕ) (before after : List GivenFrame) (new : NetworkState) : Type 0 where
  -- the frames that the host's sockets returned
  pub given : List GivenFrame
  -- these frames were appended to the frames in the sink
  pub appended : after ≡ before ++ given
  -- if the host exists, its drain
  pub drains : (h h' : HostState) → IsHost old host h → IsHost new host h'
      → Drains steps host given (connected h old.stations) (connected h' new.stations)
  -- if the host exists, its count of missed frames doesn't change, nor whether this count is exact
  pub counts : (h h' : HostState) → IsHost old host h → IsHost new host h'
      → KeepsCount h (world_at old.stations host) h' (world_at new.stations host)
  -- if there is no such host, the drain has no steps, no frame is returned, and the network is the same
  pub absent : length old.hosts ≤ host → (steps ≡ 0) × (given ≡ []) × (new ≡ old)
  -- every other host has the same `HostState`; `drains` states what doesn't change at the other hosts' stations
  pub others : OtherHostsStay host old.hosts new.hosts
  -- the equations of delivery hold for each host
  pub delivers : (k : ℕ) (h h' : HostState) → IsHost old k h → IsHost new k h'
      → MeetsEquations k (said_of_drain host (length (world_at old.stations host).adapter.receiver.buffer) given) old.stations new.stations
      h h'
  -- `HostStands` holds for each host after the drain
  pub stands : NetworkStands new
