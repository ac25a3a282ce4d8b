-- The contracts of the private functions that play one event: a call or a reset with its ticks, or a tick outside a
-- call (our choice). The contract of `Lan::run` doesn't use these definitions. It uses `EventRuns` (specs/Runs), which
-- follows from them.
use Rattle.std.specs.Prelude.{◌≡◌, ℕ, All, List}
use Rattle.adapter.specs.TickGroups.{without_go}
use Rattle.packet_socket.specs.CallEffects.{call_request}
use Rattle.packet_socket.specs.HostState.{HostState}
use Rattle.stations.specs.AtomicRuns.{IsTick, LeadsTo, is_go, steps_told}
use Rattle.stations.specs.AtomicSteps.{AtomicStep, Watched, watched}
use Rattle.stations.specs.PlayedTicks.{PlaysTicks}
use Rattle.stations.specs.Stations.{StationState}
use Rattle.stations.specs.declared.observer.Observer.{Ghosts as OfObserver}
use Rattle.stations.specs.declared.tick.Tick.{Tick}
use Rattle.host_calls.specs.Happenings.{happened_in, lone_tick_happenings}
use Rattle.network_plan.specs.EventCalls.{Alone, ByCall, ByReset, EventCall, EventKind}
use Rattle.network_plan.specs.declared.event.Event.{Event}
use Rattle.network_plan.specs.declared.reply.Answer.TheVariants.{NoHost}
use Rattle.network_plan.specs.declared.reply.Reply.{Reply}
use Rattle.host_calls.specs.ConnectedHosts.{connected}
use Rattle.host_calls.specs.Networks.{IsHost, NetworkState}
use Rattle.wire.specs.RunObservers.{TellsReply, ending}
use Rattle.wire.specs.Runs.{AnswersCall, AnswersReset, HostsGo, IsCallReply, IsTickReply, reset_answer, call_happenings, said_in_reset}
use Rattle.wire.specs.declared.events.Call.{Call}
use Rattle.wire.specs.declared.events.EventForm.{EventForm}
use Rattle.wire.specs.declared.events.EventForm.TheVariants as forms

-- the value of a `Call` in contracts
abbrev pub call_in : Call → EventCall
call_in call = record { host = call.host; request = call_request call.call; ticks = call.ticks.now }

-- the value of an `EventForm` in contracts
abbrev pub kind_in : EventForm → EventKind
kind_in (forms.Call call) = ByCall (call_in call)
kind_in (forms.Reset reset) = ByReset reset.host reset.ticks.now
kind_in (forms.Tick tick) = Alone tick

-- The call `call` was made, with the reply `reply`. If its host doesn't exist, only the ticks of the call were played.
-- The fields are those of `EventRuns`: `go` states the equations, `replied` what the reply states about the steps, and
-- `answer` the effect of the call if the host exists.
pub record CallPlayed (call : EventCall) (reply : Reply) (old new : NetworkState) : Type 0 where
  pub steps : List AtomicStep
  pub go : HostsGo call.host (call_happenings call reply) steps old new
  pub replied : IsCallReply call.host call.ticks reply steps old new
  pub answer : (h h' : HostState) → IsHost old call.host h → IsHost new call.host h'
      → AnswersCall call reply.answer steps (connected h old.stations) (connected h' new.stations)

-- Host `host` was reset, with the reply `reply`. If the host doesn't exist, only the ticks of the reset were played. The
-- fields are as in `CallPlayed`.
pub record ResetPlayed (host : ℕ) (ticks : List Tick) (reply : Reply) (old new : NetworkState) : Type 0 where
  pub steps : List AtomicStep
  pub go : HostsGo host (said_in_reset host (reset_answer reply.answer) ticks reply.outcomes.list) steps old new
  pub replied : IsCallReply host ticks reply steps old new
  pub answer : (h h' : HostState) → IsHost old host h → IsHost new host h'
      → AnswersReset host ticks reply.answer steps (connected h old.stations) (connected h' new.stations)

-- For a host that doesn't exist, only the ticks of the call or the reset were played. The observer was told the answer
-- NoHost with 0 accesses.
pub record AbsentTold {O : Type 0} (observers : OfObserver O) (ran : O → O → List Event → List Reply → Type 0) (event : Event)
    (ticks : List Tick) (old new : Watched O) : Type 0 where
  -- the observer after the ticks, before the answer
  pub ticked : O
  pub plays : PlaysTicks observers (without_go is_go ticks) 0 old (watched new.stations ticked)
  pub tells : TellsReply ran event (ending 0 NoHost (steps_told 0 plays.steps)) old.observer new.observer

-- A tick was played outside a call, with the reply `reply`. `steps` is the tick's atomic step; no step if the tick is
-- Go. `leads` holds for each number `caller`, because no host makes an access.
pub record TickPlayed (tick : Tick) (reply : Reply) (old new : List StationState) : Type 0 where
  pub steps : List AtomicStep
  pub are : All IsTick steps
  pub leads : (caller : ℕ) → LeadsTo caller steps old new
  pub said : lone_tick_happenings tick reply.outcomes.list ≡ happened_in steps
  -- `IsTickReply` holds for any list of hosts, which is the same before and after the tick
  pub replied : (hosts : List HostState)
      → IsTickReply tick reply steps (record { hosts = hosts; stations = old }) (record { hosts = hosts; stations = new })
