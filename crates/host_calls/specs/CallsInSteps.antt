-- What a call of a host does, in the atomic steps of its network (our choice). The effects of calls are in
-- packet_socket/specs/HostEffects; here their argument `Runs` is `InSteps`. An atomic step of a call is an access of
-- the host's driver, or a tick other than Go.
use Rattle.std.specs.Prelude.{◌≡◌, ◌++◌, ◌∷◌, [], ℕ, All, List}
use Rattle.adapter.specs.HostFrames.{frames_held}
use Rattle.adapter.specs.World.{World}
use Rattle.adapter.specs.model_types.offsets.TheConstants.{ICR}
use Rattle.adapter.specs.Pasts.{Past}
use Rattle.adapter.specs.bus_types.event.Access.{Access}
use Rattle.adapter.specs.bus_types.event.Access.TheVariants.{Reads}
use Rattle.stations.specs.AtomicRuns.{LeadsTo, past_at}
use Rattle.stations.specs.AtomicSteps.{AtomicStep}
use Rattle.stations.specs.Stations.{StationState, world_at}
use Rattle.packet_socket.specs.HostActs.{HostAct, Effect, Ends, CallStages, IsAccessOf, Then, accesses_in}
use Rattle.packet_socket.specs.CallEffects.{EffectOf, Request, accepted_in, given_in}
use Rattle.packet_socket.specs.declared.call.HostAnswer.{HostAnswer}
use Rattle.packet_socket.specs.HostCalls.{Given, given_for, socket_frames, waiting_frames}
use Rattle.host_calls.specs.CallsOfHosts.{CallRuns, EndsWithAccess}
use Rattle.host_calls.specs.ConnectedHosts.{ConnectedHost, PlayedCall}
use Rattle.host_calls.specs.InterruptCauses.{TellsCauses}

-- The steps `steps` begin with those of one stage of a call of host k: its accesses `made`, and the ticks before each
-- of these accesses. The fact `Holds` is true of the stage, and `Later` of the remaining steps.
pub record MakesStage (k : ℕ) (made : List Access) (Holds : World → Past → World → Type 0) (steps : List AtomicStep)
    (old : List StationState) (Later : List AtomicStep → List StationState → Type 0) : Type 0 where
  -- the steps of this stage; no step if the stage makes no access
  pub first : List AtomicStep
  -- the steps of later stages
  pub rest : List AtomicStep
  -- `first`, followed by `rest`, are all steps
  pub split : steps ≡ first ++ rest
  -- the host's accesses in this stage are `made`
  pub made_are : (past_at k first).accesses ≡ made
  -- the stage ends with an access of the host, or has no step
  pub ends : EndsWithAccess first
  -- the stations right after the stage's last access, before any further step; `old` if the stage makes no access
  pub middle : List StationState
  -- the steps lead to these stations
  pub leads : LeadsTo k first old middle
  -- `Holds` relates the host's world before the stage, what happened in the stage, and the world right after its last
  -- access
  pub holds : Holds (world_at old k) (past_at k first) (world_at middle k)
  -- `Later` holds of the steps of later stages
  pub later : Later rest middle

-- The steps are those of the stages of a call of host k, in order. After the last stage, host k makes no access.
abbrev pub MakesStages : (k : ℕ) → CallStages → List AtomicStep → (old : List StationState) → Type 0
MakesStages k Ends steps old = (past_at k steps).accesses ≡ []
MakesStages k (Then made Holds later) steps old =
    MakesStage k made Holds steps old (λ rest middle. MakesStages k later rest middle)

-- Host k ran the act `act` in the steps `steps`, and its sockets returned the frames `given`.
pub record InSteps (k : ℕ) (given : List Given) (steps : List AtomicStep) (old new : ConnectedHost) (act : HostAct) : Type 0 where
  -- the steps are those of the act's stages
  pub stages : MakesStages k act.stages steps old.stations
  -- each access of host k is permitted in a call of the act's kind (`IsAccessOf`)
  pub own : All (IsAccessOf act.kind old.host.driver.layout) (past_at k steps).accesses
  -- The frames taken off the receive ring, followed by those held at the end, are those held at the beginning, followed
  -- by those stored.
  pub left : act.taken ++ frames_held new.host.driver.oldest_receive (world_at new.stations k)
      ≡ frames_held old.host.driver.oldest_receive (world_at old.stations k) ++ (past_at k steps).stored
  -- The taken frames that go to a socket are appended to the socket's queue, in order. The frames that a socket
  -- returned were at the front of its queue.
  pub queues : (socket : ℕ) → given_for socket given ++ waiting_frames new.host socket (world_at new.stations k)
      ≡ waiting_frames old.host socket (world_at old.stations k) ++ socket_frames old.host.kinds socket act.taken
  -- If the first access reads ICR, `TellsCauses` holds of the value that was read: what this value implies about the
  -- adapter when the call began, and about the steps before the read.
  pub icr : (causes : ℕ) (more : List Access) → accesses_in act.stages ≡ Reads ICR causes ∷ more
      → TellsCauses k steps causes (world_at old.stations k).adapter

-- The call `call` was made with its ticks (`runs`), and had the effect `Does` in its atomic steps (`does`).
pub record Calls (call : PlayedCall) (given : List Given) (accepted : List (List ℕ)) (Does : Effect) (old new : ConnectedHost) : Type 0
  where
    pub runs : CallRuns call given accepted old new
    pub does : Does old.host new.host (InSteps call.caller given runs.steps old new) (world_at old.stations call.caller)

-- The call for the request `request` returned `answer`, and had the effect of this answer (`EffectOf`).
abbrev pub MakesCall : PlayedCall → Request → HostAnswer (List ℕ) → (old new : ConnectedHost) → Type 0
MakesCall call request answer = Calls call (given_in request answer) (accepted_in request answer) (EffectOf request answer)
