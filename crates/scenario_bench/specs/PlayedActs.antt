-- Acts on a network: events are run, and hosts are drained (our choice).
use Rattle.std.specs.Prelude.{◌≡◌, ◌∷◌, [], ℕ, List, length}
use Rattle.packet_socket.specs.HostState.{HostState}
use Rattle.packet_socket.specs.HostCalls.{Given as GivenFrame}
use Rattle.stations.specs.Stations.{world_at}
use Rattle.host_calls.specs.Networks.{IsHost, NetworkState}
use Rattle.run_record.specs.Acts.{Act, Drained, Ran, history}
use Rattle.scenario.specs.SoFar.{Drains, Said, command_of_event}
use Rattle.wire.specs.DrainedNetworks.{NetworkDrains}
use Rattle.wire.specs.Equations.{MeetsEquations}
use Rattle.wire.specs.Runs.{EventRuns}

-- the event or the drain of an act, as a command of a scenario
abbrev pub act_of : Act → Said
act_of (Ran event reply) = command_of_event event
act_of (Drained host buffered given) = Drains host

-- Host `host` was drained, and its sockets returned the frames `given`. Before the drain, `buffered` frames were in its
-- receive packet buffer.
pub record DrainRuns (old : NetworkState) (host buffered : ℕ) (given : List GivenFrame) (new : NetworkState) : Type 0 where
  -- the number of frames in the host's receive packet buffer before the drain
  pub buffer : buffered ≡ length (world_at old.stations host).adapter.receiver.buffer
  -- the number of steps of the drain
  pub steps : ℕ
  -- the effect of the drain
  pub drains : NetworkDrains old host steps [] given new

-- An act leads from the network `old` to the network `new`.
abbrev pub ActRuns : NetworkState → Act → NetworkState → Type 0
ActRuns old (Ran event reply) new = EventRuns old event reply new
ActRuns old (Drained host buffered given) new = DrainRuns old host buffered given new

-- The acts lead from the network `old` to the network `new`, with a state of the network between each act and the next.
abbrev pub ActsRun : NetworkState → List Act → NetworkState → Type 0
ActsRun old [] new = new ≡ old
ActsRun old (act ∷ acts) new = (middle : NetworkState) × ActRuns old act middle × ActsRun middle acts new

-- These acts were done in order, from the network `old` to the network `new`. The delivery theorem holds for these
-- acts.
pub record ActsLead (old : NetworkState) (acts : List Act) (new : NetworkState) : Type 0 where
  -- each act leads from one state to the next
  pub states : ActsRun old acts new
  -- the number of hosts didn't change
  pub hosts : length new.hosts ≡ length old.hosts
  -- the equations of delivery hold for each host over all acts
  pub delivers : (k : ℕ) (h h' : HostState) → IsHost old k h → IsHost new k h'
      → MeetsEquations k (history acts) old.stations new.stations h h'
