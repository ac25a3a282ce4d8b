-- Laws of runs: consecutive runs join, and runs that begin with legal frames have only legal frames (our choice).
use Rattle.std.specs.Prelude.{⊤, ◌≡◌, ◌≢◌, ◌<◌, ◌++◌, ℕ, All, List, length}
use Rattle.descriptors.specs.Frames.{IsLegal}
use Rattle.rx_engine.specs.declared.arrival.Fate.TheVariants.{Illegal}
use Rattle.adapter.specs.HostFrames.{frames_to_send}
use Rattle.stations.specs.Stations.{backlog_at, world_at}
use Rattle.host_calls.specs.Happenings.{Happening, Reached}
use Rattle.network_plan.specs.declared.event.Event.{Event}
use Rattle.network_plan.specs.declared.plan.HostPlan.{HostPlan}
use Rattle.network_plan.specs.declared.reply.Reply.{Reply}
use Rattle.host_calls.specs.Networks.{NetworkState}
use Rattle.wire.specs.NewNetworks.{IsMadeByPlan}
use Rattle.wire.specs.Runs.{RunsTo, happenings}

-- If one run ends with the network and the replies with which the next run begins, both together are one run.
abbrev pub RunsJoin : Type 0
RunsJoin =
    (a b c : NetworkState) (events later : List Event) (before between behind : List Reply)
    → RunsTo a events before between b → RunsTo b later between behind c → RunsTo a (events ++ later) before behind c

-- Each frame that a host has to send, and each frame that waits at an end of a wire, has 60 to 1,518 bytes.
pub record HasLegalFrames (network : NetworkState) : Type 0 where
  -- each frame that a host has to send is legal
  pub to_send : (k : ℕ) → k < length network.hosts → All IsLegal (frames_to_send (world_at network.stations k))
  -- each frame that waits at a host's end of its wire is legal
  pub waiting : (k : ℕ) → k < length network.hosts → All IsLegal (backlog_at network.stations k)

-- This happening isn't the arrival of a frame at host k with the fate Illegal.
abbrev pub IsNotIllegal : (k : ℕ) → Happening → Type 0
IsNotIllegal k (Reached host frame fate) = k ≡ host → fate ≢ Illegal
IsNotIllegal k other = ⊤

-- A network that `Lan::new` made has only legal frames, because it has no frames.
abbrev pub NewNetworksAreLegal : Type 0
NewNetworksAreLegal = (plans : List HostPlan) (network : NetworkState) → IsMadeByPlan plans network → HasLegalFrames network

-- If a network has only legal frames before a run, no frame reaches one of its hosts with the fate Illegal in the run.
-- The network has only legal frames after the run.
abbrev pub RunsStayLegal : Type 0
RunsStayLegal =
    (old new : NetworkState) (events : List Event) (before behind : List Reply) (runs : RunsTo old events before behind new)
    → HasLegalFrames old
    → HasLegalFrames new × ((k : ℕ) → k < length old.hosts → All (IsNotIllegal k) (happenings events runs.replies))
