-- A call of a host: its atomic steps, and what the host does in these steps (our choice).
use Rattle.std.specs.Prelude.{⊤, ◌≡◌, ◌∷◌, [], ℕ, true, List, All, map}
use Rattle.adapter.specs.TickGroups.{without_go}
use Rattle.stations.specs.AtomicSteps.{AtomicStep, IsNoAccess, tick_of}
use Rattle.stations.specs.Stations.{StationState, world_at}
use Rattle.stations.specs.AtomicRuns.{LeadsTo, counted_of, is_go, noted_of, past_at, steps_told}
use Rattle.adapter.specs.Calls.{HasNoForgottenWork, IsRefilled}
use Rattle.packet_socket.specs.HostActs.{IsOfDriver, IsOfHost, OnlyLastWrites}
use Rattle.packet_socket.specs.HostCalls.{Given, HostDid, HostFlowsTo, host_did, in_world}
use Rattle.host_calls.specs.Happenings.{happened_in, tick_happenings}
use Rattle.host_calls.specs.TickNumbers.{numbers, noted_numbers}
use Rattle.host_calls.specs.ConnectedHosts.{ConnectedHost, PlayedCall}

-- There is no step, or the last step is an access.
abbrev pub EndsWithAccess : List AtomicStep → Type 0
EndsWithAccess [] = ⊤
EndsWithAccess (step ∷ []) = ¬ IsNoAccess step
EndsWithAccess (step ∷ next ∷ later) = EndsWithAccess (next ∷ later)

-- The atomic steps of a call lead from the stations `old` to the stations `new`. These steps are the ticks of the call
-- except each Go, and the accesses of the calling host. The observer was told each tick's outcome in order, with the
-- number of accesses before the tick.
pub record StepsOfCall (call : PlayedCall) (steps : List AtomicStep) (old new : List StationState) : Type 0 where
  pub leads : LeadsTo call.caller steps old new
  -- the steps that aren't accesses are the ticks of the call except each Go, in order
  pub played : without_go is_go (map tick_of steps) ≡ without_go is_go call.ticks
  -- the observer was told each of these ticks with its outcome
  pub heard : call.heard (steps_told 0 steps)
  -- The ticks of the call and their outcomes determine the happenings of the steps.
  pub said : tick_happenings call.ticks (noted_of 0 steps) ≡ happened_in steps
  -- The number of accesses before each outcome is the number of Gos before its tick, but at most the number of all
  -- accesses.
  pub numbered : noted_numbers (noted_of 0 steps) ≡ numbers call.ticks 0 call.accesses
  -- the number of accesses among the steps, which saturates at the greatest u64
  pub counted : call.accesses ≡ counted_of 0 steps

-- In the steps of a call, host k changed from `old` to `new`, and took, accepted and returned the frames `done`.
pub record HostRuns (k : ℕ) (steps : List AtomicStep) (done : HostDid) (old new : ConnectedHost) : Type 0 where
  -- the host's frames are sent, held and returned in order, and the host is ready at the end
  pub flows : HostFlowsTo true (in_world old.host (world_at old.stations k)) (in_world new.host (world_at new.stations k)) done
      (past_at k steps)
  -- each access of host k is permitted in some call of a host (`IsOfHost`)
  pub accesses : All (IsOfHost old.host.driver.layout) (past_at k steps).accesses
  -- if no work was forgotten before the call, no work is forgotten after it
  pub work : HasNoForgottenWork old.host.driver (world_at old.stations k) → HasNoForgottenWork new.host.driver (world_at new.stations k)
  -- if the receive ring was refilled before the call, the ring is refilled after the call
  pub refilled : IsRefilled old.host.driver → IsRefilled new.host.driver
  -- If no slot was staged before the call, no slot is staged after it.
  pub offered : old.host.driver.staged ≡ [] → new.host.driver.staged ≡ []

-- No group is joined or left: the joined groups and the driver's setup don't change, and no word of the group table is
-- written.
pub record GroupsStay (k : ℕ) (steps : List AtomicStep) (old new : ConnectedHost) : Type 0 where
  -- the joined groups don't change
  pub groups : new.host.driver.groups ≡ old.host.driver.groups
  -- the driver's setup doesn't change
  pub setup : new.host.driver.setup ≡ old.host.driver.setup
  -- each access is a load, a store, a read of ICR or MPC, or a write of TDT or RDT
  pub accesses : All (IsOfDriver old.host.driver.layout) (past_at k steps).accesses

-- A call of a host: its atomic steps, and what the host did. The host's sockets returned the frames `given`, and the host accepted the
-- frames `accepted` for sending.
pub record CallRuns (call : PlayedCall) (given : List Given) (accepted : List (List ℕ)) (old new : ConnectedHost) : Type 0 where
  pub steps : List AtomicStep
  pub of_call : StepsOfCall call steps old.stations new.stations
  -- the frames that the host took off the receive ring
  pub taken : List (List ℕ)
  pub runs : HostRuns call.caller steps (host_did taken given accepted) old new
  -- no access of the calling host except the last one writes a register
  pub last_writes : OnlyLastWrites (past_at call.caller steps).accesses
