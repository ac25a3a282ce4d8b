-- Runs, and one event with its reply: the contract of `Lan::run` (our choice). A name must be defined before it is
-- used, so read the parts from 6 back to 1. The equations are in specs/Equations. A name from another crate is explained
-- at a field that uses it. docs/CONTRACTS, "To review `Lan::run`", names the files that define these names.
-- 7. For `Lan::play` only: `RunTold`, `StopsAt`.
-- 6. A run: `RunsTo`, `StatesRun`.
-- 5. One event with its reply: `EventRuns`, whose fields are records of parts 4, 3 and 2.
-- 4. What the reply states about the event's atomic steps: `IsCallReply` for a call or a reset, `IsTickReply` for a tick
--    outside a call.
-- 3. The answer of a host that exists: `AnswersCall`, `AnswersReset`.
-- 2. What the atomic steps of an event do to each host: `HostsGo`, `TicksAnswered`.
-- 1. What happened in an event, by its reply: `said`, `happenings`.
-- An event is a call or a reset with its ticks, or a tick outside a call (`in_event`, network_plan/specs/EventCalls).
-- An atomic step is one access of a driver, or one tick other than Go, with its outcome. Such a tick is a step of an
-- adapter or a delivery. The outcome of a tick is Nothing if the tick did nothing. A station is a host's adapter and
-- memory (`world_at stations k`) with the host's end of a wire.
use Rattle.std.specs.Prelude.{◌≡◌, ◌≢◌, ◌≤◌, ◌<◌, ◌+◌, ◌↔◌, ◌⊎◌, ◌==◌, ◌&&◌, ◌++◌, ◌∷◌, [], ℕ, All, List, None, Ok, Option, Some}
use Rattle.std.specs.Prelude.{length, map, nat_le, nat_lt, slice_get}
use Rattle.adapter.specs.HostFrames.{frames_held, frames_to_send}
use Rattle.adapter.specs.model_types.outcome.Outcome.TheVariants.{Nothing}
use Rattle.adapter.specs.TickGroups.{without_go}
use Rattle.packet_socket.specs.CallEffects.{EffectOf, Interrupting, Joining, Leaving, Receiving, Request, Sending, given_in}
use Rattle.packet_socket.specs.HostActs.{ActKind, HandlesInterrupt, IsAccessOf, MovesFrames, OnlyLastWrites, SetsGroups}
use Rattle.packet_socket.specs.HostState.{HostState}
use Rattle.packet_socket.specs.declared.call.HostAnswer.{HostAnswer}
use Rattle.stations.specs.AtomicRuns.{LeadsTo, counted_of, is_go, noted_of, past_at}
use Rattle.stations.specs.AtomicSteps.{AtomicStep, tick_of}
use Rattle.stations.specs.Stations.{world_at}
use Rattle.stations.specs.declared.outcomes.Numbered.{Numbered}
use Rattle.stations.specs.declared.tick.Tick.{Tick}
use Rattle.stations.specs.declared.tick.Tick.TheVariants.{Deliver, Go, Step}
use Rattle.host_calls.specs.Counts.{counts_of}
use Rattle.host_calls.specs.Happenings.{Accepted, Disabled, Enabled, Given, GivenUp, Happening, Joined as HasJoined, Left as HasLeft, put}
use Rattle.host_calls.specs.Happenings.{stored, tick_happenings, lone_tick_happenings, tick_happenings_around, tick_happenings_where}
use Rattle.host_calls.specs.StepOutcomes.{AreAnswered, OfEachTick, counts_at}
use Rattle.host_calls.specs.TickNumbers.{numbers, noted_numbers}
use Rattle.network_plan.specs.Answers.{FrameAnswer, event_answer}
use Rattle.network_plan.specs.EventCalls.{Alone, ByCall, ByReset, EventCall, EventKind, in_event}
use Rattle.network_plan.specs.declared.event.Event.{Event}
use Rattle.network_plan.specs.declared.reply.Answer.TheVariants.{Joined, Left, NoHost, Received, Reset, Sent, Ticked}
use Rattle.network_plan.specs.declared.reply.Reply.{Reply}
use Rattle.host_calls.specs.CallsInSteps.{InSteps}
use Rattle.host_calls.specs.ConnectedHosts.{ConnectedHost, connected}
use Rattle.host_calls.specs.Networks.{IsHost, NetworkState}
use Rattle.host_calls.specs.ResetsInSteps.{ResetsInSteps}
use Rattle.wire.specs.Equations.{MeetsEquations, NetworkStands}

-- 1. What happened in an event, by its reply. `FrameAnswer` is a reply's answer, with the bytes of the frame
-- that a socket returned.

-- Accepted with this frame if the answer is that the frame was accepted, else no happening
abbrev pub accepted_by_answer : (host : ℕ) (frame : List ℕ) → FrameAnswer → List Happening
accepted_by_answer host frame (Sent (Ok u)) = Accepted host frame ∷ []
accepted_by_answer host frame _ = []

-- Given with the frame in the answer if a socket returned a frame, else no happening
abbrev pub given_by_answer : (host socket : ℕ) → FrameAnswer → List Happening
given_by_answer host socket (Received (Ok frame)) = Given host socket frame ∷ []
given_by_answer host socket _ = []

-- HasJoined with this group if the answer is that the host joined the group, else no happening
abbrev pub joined_of : (host : ℕ) (group : List ℕ) → FrameAnswer → List Happening
joined_of host group (Joined (Ok u)) = HasJoined host group ∷ []
joined_of host group _ = []

-- HasLeft with this group if the answer is that the host left the group, else no happening
abbrev pub left_by_answer : (host : ℕ) (group : List ℕ) → FrameAnswer → List Happening
left_by_answer host group (Left (Ok u)) = HasLeft host group ∷ []
left_by_answer host group _ = []

-- The happenings of a call: the frame that was accepted, the happenings of its ticks, and the frame that was returned.
-- - `tick_happenings`: for each outcome Put, Delivered or Moved of a tick, a frame that was put on the wire, that
--   reached a host with its fate, or that was moved from the receive packet buffer to memory.
-- - `tick_happenings_around`: a join or a leave comes after the happenings of the ticks before the call's only access,
--   and before those of later ticks. If the call makes no access, the join or leave comes after the happenings of all
--   ticks.
abbrev pub happenings_in_call : (host : ℕ) → Request → FrameAnswer → (ticks : List Tick) → (outcomes : List Numbered) → List Happening
happenings_in_call host (Sending frame) answer ticks outcomes = accepted_by_answer host frame answer ++ tick_happenings ticks outcomes
happenings_in_call host (Receiving socket) answer ticks outcomes = tick_happenings ticks outcomes ++ given_by_answer host socket answer
happenings_in_call host Interrupting answer ticks outcomes = tick_happenings ticks outcomes
happenings_in_call host (Joining group) answer ticks outcomes = tick_happenings_around (joined_of host group answer) ticks outcomes
happenings_in_call host (Leaving group) answer ticks outcomes = tick_happenings_around (left_by_answer host group answer) ticks outcomes

-- the happenings of the call of an event, by the event's reply
abbrev pub call_happenings : EventCall → Reply → List Happening
call_happenings call reply = happenings_in_call call.host call.request reply.answer call.ticks reply.outcomes.list

-- The answer of a reset.
pub record ResetAnswer : Type 0 where
  -- the frames to be sent that the reset dropped, the oldest first
  pub sending : List (List ℕ)
  -- the frames held that the reset dropped, the oldest first
  pub holding : List (List ℕ)
  -- the number of accesses up to and including the second write of RCTL
  pub on_after : ℕ

-- the answer of a reset; None if the answer is that of another event
abbrev pub reset_answer : FrameAnswer → Option ResetAnswer
reset_answer (Reset sending holding on_after) = Some (record { sending = sending.items; holding = holding.items; on_after = on_after })
reset_answer answer = None

-- The happenings of a reset, in order. The happenings of ticks with no access before them come before Disabled. Those
-- of ticks with 1 or 2 accesses before them come before GivenUp. Those of ticks with 3 or more, but fewer than
-- `on_after`, accesses before them come before Enabled. Those of the other ticks come last. If the answer isn't that
-- of a reset (`None`), only the ticks have happenings.
abbrev pub said_in_reset : (host : ℕ) → Option ResetAnswer → (ticks : List Tick) → (outcomes : List Numbered) → List Happening
said_in_reset host None ticks outcomes = tick_happenings ticks outcomes
said_in_reset host (Some answer) ticks outcomes =
    tick_happenings_where (λ number. number == 0) ticks outcomes
    ++ Disabled host ∷ (tick_happenings_where (λ number. nat_le 1 number && nat_lt number 3) ticks outcomes
    ++ GivenUp host answer.sending answer.holding ∷ (tick_happenings_where (λ number. nat_le 3 number && nat_lt number answer.on_after)
    ticks outcomes
    ++ Enabled host ∷ tick_happenings_where (λ number. nat_le answer.on_after number) ticks outcomes))

-- The happenings of an event of this kind, by its reply. `lone_tick_happenings`: the happening of a tick outside a call, if any.
abbrev pub kind_happenings : EventKind → Reply → List Happening
kind_happenings (ByCall call) reply = call_happenings call reply
kind_happenings (ByReset host ticks) reply = said_in_reset host (reset_answer reply.answer) ticks reply.outcomes.list
kind_happenings (Alone tick) reply = lone_tick_happenings tick reply.outcomes.list

-- the happenings of an event, by its reply
abbrev pub said : Event → Reply → List Happening
said event reply = kind_happenings (in_event event) reply

-- what happened in several events, in order, by their replies; nothing for an event without a reply
abbrev pub happenings : List Event → List Reply → List Happening
happenings [] replies = []
happenings (event ∷ events) [] = []
happenings (event ∷ events) (reply ∷ replies) = said event reply ++ happenings events replies

-- 2. The atomic steps of an event, for each host.

-- The outcome of each tick follows from the counts of its host, and from the frames that wait at the ends of the wires.
-- - `counts_of`: the counts of an adapter. For each ring, these are the number of slots, the head and the tail. For
--   each frame in the receive packet buffer, there is a count of the bytes still to be moved. Other counts are the
--   number of frames in the transmit packet buffer, and the size of a receive buffer. The counts also state whether a
--   piece is in progress, whether each side is enabled, and what is pending at the EEPROM and the PHY.
-- - `counts_at start steps k`: the counts of the k-th host after the steps, by the counts at the start, each outcome
--   and each register write.
-- - The frame of Put is the oldest in the transmit packet buffer (`sent_is_accepted` of specs/Equations). The frame of
--   Delivered is the oldest that waits (`reached_is_put`), and its fate is right (`fates_are_right`).
pub record TicksAnswered (steps : List AtomicStep) (old new : NetworkState) : Type 0 where
  -- The outcome of each tick of a host follows from the counts at the start, changed by earlier outcomes and register
  -- writes (`AreAnswered`). The table of `AreAnswered` is in docs/DELIVERY, "Answers".
  pub there : (k : ℕ) (h : HostState) → IsHost old k h → AreAnswered k old.stations steps
  -- the outcome of each tick of a host that doesn't exist is Nothing (`OfEachTick`: for each step and delivery of the
  -- k-th host)
  pub absent : (k : ℕ) → length old.hosts ≤ k → OfEachTick k steps (λ before tick outcome. outcome ≡ Nothing)
  -- the counts at the end are those at the start, changed by all outcomes and register writes
  pub counts : (k : ℕ) (h : HostState) → IsHost old k h
      → counts_of (world_at new.stations k).adapter ≡ counts_at old.stations steps k

-- These atomic steps lead from the network `old` to the network `new`, and `happened` is what happened in these steps.
-- Each host satisfies the equations of delivery. At the end, `HostStands` holds for each host.
pub record HostsGo (caller : ℕ) (happened : List Happening) (steps : List AtomicStep) (old new : NetworkState) : Type 0 where
  -- Each atomic step can happen in the state before it, and changes the stations exactly as its access, adapter step
  -- or delivery does (`LeadsTo`). Each access is made by host `caller`. No idle tick among the steps is Go.
  pub leads : LeadsTo caller steps old.stations new.stations
  -- the number of hosts is the same
  pub hosts : length new.hosts ≡ length old.hosts
  -- the equations over this event (specs/Equations)
  pub delivers : (k : ℕ) (h h' : HostState) → IsHost old k h → IsHost new k h' → MeetsEquations k happened old.stations new.stations h h'
  -- the outcome of each tick follows from the counts, and the counts at the end from those at the start
  pub ticks : TicksAnswered steps old new
  -- at the end `HostStands` holds for each host: one owner for each buffer, no forgotten work, and more
  -- (specs/Equations)
  pub stands : NetworkStands new

-- 3. The answer of a host that exists. A `ConnectedHost` is a host with all stations.

-- the kind of a call
abbrev pub kind_of : Request → ActKind
kind_of (Sending frame) = MovesFrames
kind_of (Receiving socket) = MovesFrames
kind_of Interrupting = HandlesInterrupt
kind_of (Joining group) = SetsGroups
kind_of (Leaving group) = SetsGroups

-- A call had the result `result` and the effect of this result: `SendEffect`, `RecvEffect`, `InterruptEffect`,
-- `JoinEffect` or `LeaveEffect` of packet_socket/specs/HostEffects. The contracts of `Host::send`, `recv`, `interrupt`,
-- `join` and `leave` state the same effects over a bus. Each result has its record, which states when the call has this
-- result, the host after the call, and the accesses of each stage.
pub record AnswersCall (call : EventCall) (answer : FrameAnswer) (steps : List AtomicStep) (old new : ConnectedHost) : Type 0 where
  -- the result, with the bytes of the frame that a socket returned
  pub result : HostAnswer (List ℕ)
  -- the event's answer is this result
  pub is : answer ≡ event_answer result
  -- In these steps (`InSteps`, host_calls/specs/CallsInSteps) the accesses of the host's driver are exactly those of
  -- the effect's stages, in order. The fact of each stage holds right after its last access. `given_in`: the frame that
  -- a socket returned, if any.
  pub does : EffectOf call.request result old.host new.host (InSteps call.host (given_in call.request result) steps old new)
      (world_at old.stations call.host)
  -- Each access of a send, a recv or an interrupt is one of a driver (`IsOfDriver`): a load, a store, a read of ICR or
  -- MPC, or a write of TDT or RDT. Each access of a join or a leave is a write of a word of MTA (`IsGroupWrite`).
  pub accesses : All (IsAccessOf (kind_of call.request) old.host.driver.layout) (past_at call.host steps).accesses
  -- only the last access may write a register
  pub last_writes : OnlyLastWrites (past_at call.host steps).accesses

-- A reset had the answer `given_up`.
pub record AnswersReset (host : ℕ) (ticks : List Tick) (answer : FrameAnswer) (steps : List AtomicStep) (old new : ConnectedHost) : Type 0
  where
    -- the answer of the reset
    pub given_up : ResetAnswer
    -- the event's answer is that of the reset
    pub is : reset_answer answer ≡ Some given_up
    -- The frames that the host put after at most 2 accesses, followed by `given_up.sending`, are the host's frames to
    -- be sent at the beginning.
    pub sending : put host (tick_happenings_where (λ number. nat_lt number 3) ticks (noted_of 0 steps)) ++ given_up.sending
        ≡ frames_to_send (world_at old.stations host)
    -- the frames held that the reset dropped are those held at the beginning, and then those stored before the first
    -- access
    pub holding : given_up.holding ≡ frames_held old.host.driver.oldest_receive (world_at old.stations host)
        ++ stored host (tick_happenings_where (λ number. number == 0) ticks (noted_of 0 steps))
    -- the second write of RCTL is the access with the number `on_after`, counted from 1
    pub on_after : given_up.on_after ≡ 302 + old.host.driver.layout.rx
    -- The accesses of the host's driver are exactly those of a reset, in order (host_calls/specs/ResetsInSteps). The
    -- record also states what holds at the write of CTRL.RST, at the second write of RCTL, and at the end.
    pub does : ResetsInSteps host steps old new
    -- the frames to be sent that the reset dropped are all those right before the write of CTRL.RST
    pub sending_then : given_up.sending ≡ frames_to_send (world_at does.last host)
    -- the frames held that the reset dropped are all those right before the write of CTRL.RST
    pub holding_then : given_up.holding ≡ frames_held old.host.driver.oldest_receive (world_at does.last host)

-- 4. What a reply states about the atomic steps, first for a call or a reset, then for a tick outside a call.

-- What the reply of any call or reset states about the atomic steps.
pub record IsCallReply (host : ℕ) (ticks : List Tick) (reply : Reply) (steps : List AtomicStep) (old new : NetworkState) : Type 0 where
  -- The steps that aren't accesses are the ticks of the call except each Go, in order. (`tick_of` of an access is Go.)
  pub played : without_go is_go (map tick_of steps) ≡ without_go is_go ticks
  -- a call of a host that doesn't exist makes no access
  pub unmade : length old.hosts ≤ host → (past_at host steps).accesses ≡ []
  -- the answer is NoHost exactly if there is no such host
  pub no_host : reply.answer ≡ NoHost ↔ (length old.hosts ≤ host)
  -- The reply contains the number of accesses (`counted_of`), which saturates at the greatest u64.
  pub counted : reply.accesses ≡ counted_of 0 steps
  -- The reply contains the outcome of each tick that isn't Go, with the number of accesses before the tick
  -- (`noted_of`).
  pub outcomes : reply.outcomes.list ≡ noted_of 0 steps
  -- The number of accesses before a tick is the number of Gos before the tick, but at most the number of all accesses
  -- (`numbers`). `noted_numbers` are these numbers in the reply. So ticks after i Gos are played right before access i
  -- + 1, or after the last access if the call makes at most i accesses.
  pub numbered : noted_numbers reply.outcomes.list ≡ numbers ticks 0 reply.accesses
  -- Every other host has the same `HostState`: driver, sockets, queues and count of frames without a socket. `leads` of
  -- `HostsGo` states how ticks change the stations of these hosts.
  pub others : (k : ℕ) → k ≢ host → slice_get new.hosts k ≡ slice_get old.hosts k

-- The outcome of a tick outside a call is that of its atomic step. Go has no atomic step, and its outcome is Nothing.
abbrev pub AreOutcomesAlone : Tick → List AtomicStep → List Numbered → Type 0
AreOutcomesAlone Go steps outcomes = (steps ≡ []) × (outcomes ≡ record { accesses = 0; outcome = Nothing } ∷ [])
AreOutcomesAlone (Step host kind) steps outcomes = outcomes ≡ noted_of 0 steps
AreOutcomesAlone (Deliver host) steps outcomes = outcomes ≡ noted_of 0 steps

-- What the reply of a tick outside a call states about the atomic steps.
pub record IsTickReply (tick : Tick) (reply : Reply) (steps : List AtomicStep) (old new : NetworkState) : Type 0 where
  -- the steps are the tick; no step if the tick is Go
  pub played : without_go is_go (map tick_of steps) ≡ without_go is_go (tick ∷ [])
  -- no host makes an access
  pub accesses : (k : ℕ) → (past_at k steps).accesses ≡ []
  -- the reply's number of accesses is 0
  pub counted : reply.accesses ≡ counted_of 0 steps
  -- the reply contains the outcome of the tick
  pub outcomes : AreOutcomesAlone tick steps reply.outcomes.list
  -- there is one outcome, with 0 accesses before it
  pub numbered : noted_numbers reply.outcomes.list ≡ 0 ∷ []
  -- the answer is Ticked
  pub answer : reply.answer ≡ Ticked
  -- no host's driver, sockets, queues or count of frames without a socket change
  pub others : new.hosts ≡ old.hosts

-- 5. One event with its reply

-- The host that an event calls or resets. For a tick outside a call, the number has no meaning: `LeadsTo` uses it only
-- for accesses, and such a tick makes no access.
abbrev pub caller_in : EventKind → ℕ
caller_in (ByCall call) = call.host
caller_in (ByReset host ticks) = host
caller_in (Alone tick) = 0

-- the host that an event calls or resets (`caller_in`)
abbrev pub caller_of : Event → ℕ
caller_of event = caller_in (in_event event)

-- what the reply to an event states about the atomic steps
abbrev pub IsReply : EventKind → Reply → List AtomicStep → (old new : NetworkState) → Type 0
IsReply (ByCall call) = IsCallReply call.host call.ticks
IsReply (ByReset host ticks) = IsCallReply host ticks
IsReply (Alone tick) = IsTickReply tick

-- What the answer to an event states about the called host and the atomic steps, if the host exists. A tick outside a call has the answer
-- Ticked.
abbrev pub IsEventAnswer : EventKind → FrameAnswer → List AtomicStep → (old new : ConnectedHost) → Type 0
IsEventAnswer (ByCall call) = AnswersCall call
IsEventAnswer (ByReset host ticks) = AnswersReset host ticks
IsEventAnswer (Alone tick) = λ answer steps old new. answer ≡ Ticked

-- An event and its reply lead from the network `old` to the network `new`.
pub record EventRuns (old : NetworkState) (event : Event) (reply : Reply) (new : NetworkState) : Type 0 where
  -- before the event `HostStands` holds for each host: one owner for each buffer, no forgotten work, and more
  -- (specs/Equations)
  pub stood : NetworkStands old
  -- the atomic steps of the event
  pub steps : List AtomicStep
  -- the equations, the outcomes of ticks, and what holds of each host after the event
  pub go : HostsGo (caller_of event) (said event reply) steps old new
  -- what the reply states about the atomic steps
  pub replied : IsReply (in_event event) reply steps old new
  -- if the called host exists: the answer, and exactly which accesses the call or the reset made (`connected h
  -- stations`: the host h with all stations)
  pub answer : (h h' : HostState) → IsHost old (caller_of event) h → IsHost new (caller_of event) h'
      → IsEventAnswer (in_event event) reply.answer steps (connected h old.stations) (connected h' new.stations)

-- 6. A run

-- There is a state of the network before the first event, between any two consecutive events, and after the last one.
-- `EventRuns` relates the states before and after each event. There is one reply for each event.
abbrev pub StatesRun : NetworkState → List Event → List Reply → NetworkState → Type 0
StatesRun old [] [] new = new ≡ old
StatesRun old [] (reply ∷ replies) new = ⊥
StatesRun old (event ∷ events) [] new = ⊥
StatesRun old (event ∷ events) (reply ∷ replies) new =
    (middle : NetworkState) × EventRuns old event reply middle × StatesRun middle events replies new

-- The contract of `Lan::run`: these events were run, and a reply to each was appended. A `NetworkState` is the list of
-- hosts, with the list of their stations.
pub record RunsTo (old : NetworkState) (events : List Event) (before behind : List Reply) (new : NetworkState) : Type 0 where
  -- a reply for each event
  pub replies : List Reply
  -- the replies come after those that were in the list
  pub appended : behind ≡ before ++ replies
  -- one event and its reply lead from each state to the next
  pub states : StatesRun old events replies new
  -- the number of hosts is the same
  pub hosts : length new.hosts ≡ length old.hosts
  -- the equations over the whole run (`MeetsEquations`, specs/Equations), for each host (`IsHost network k h`: h is the k-th host, from 0)
  pub delivers : (k : ℕ) (h h' : HostState) → IsHost old k h → IsHost new k h'
      → MeetsEquations k (happenings events replies) old.stations new.stations h h'

-- 7. For `Lan::play`, which has an observer in place of a list of replies

-- These events were run, and the observer was told the contents of a reply to each.
pub record RunTold {O : Type 0} (ran : O → O → List Event → List Reply → Type 0) (events : List Event) (old new : NetworkState)
    (from to : O) : Type 0 where
  pub replies : List Reply
  pub told : ran from to events replies
  pub runs : RunsTo old events [] replies new

-- The event is a reset of one of the first `hosts` hosts.
abbrev pub IsResetOf : (hosts : ℕ) → EventKind → Type 0
IsResetOf hosts (ByReset host ticks) = host < hosts
IsResetOf hosts kind = ⊥

-- A run stopped before the event `event`. In the state `asked` after the earlier events, the observer may refuse to
-- make room for this event (`refuses`). Or the event is a reset of a host that exists, and memory for the dropped
-- frames may not be available. No clause states which of the two was the reason.
pub record StopsAt {O : Type 0} (refuses : O → Event → Type 0) (hosts : ℕ) (next : Option Event) (Told : O → Type 0) : Type 0 where
  pub event : Event
  pub is : next ≡ Some event
  pub asked : O
  pub told : Told asked
  pub refused : refuses asked event ⊎ IsResetOf hosts (in_event event)
