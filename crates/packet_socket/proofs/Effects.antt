-- If a call has an effect for one meaning of `Runs`, it has this effect for every meaning that the first implies.
use Rattle.std.proofs.Common.{Bool, ◌≡◌, ◌++◌, ℕ, List, ap, inl, inr, ◌∙◌}
use Rattle.std.specs.List.{All}
use Rattle.dma_memory.specs.Layout.{Counts}
use Rattle.adapter.specs.World.{World}
use Rattle.adapter.specs.Pasts.{Past}
use Rattle.adapter.specs.bus_types.bus.Bus.{Ghosts}
use Rattle.adapter.specs.bus_types.event.Access.{Access}
use Rattle.driver.specs.declared.interrupt.Handled.{Handled}
use Rattle.driver.specs.declared.interrupt.Handled.TheVariants.{NotMine}
use Rattle.driver.specs.declared.interrupt.Handled.TheVariants as answers
use Rattle.adapter.specs.Calls.{DriverDid, DriverInWorld, FlowsTo}
use Rattle.packet_socket.specs.HostActs.{ActKind, CallStages, Effect, Ends, HandlesInterrupt, HostAct, IsAccessOf, IsOfHost, MovesFrames}
use Rattle.packet_socket.specs.HostActs.{PassesStages, SetsGroups, Then, accesses_in, changed_by}
use Rattle.std.specs.Prelude.{Err, None, Ok, Option, Result, Some}
use Rattle.bring_up.specs.declared.groups.GroupError.TheVariants.{GroupsFull, NotGroup, NotJoined}
use Rattle.bring_up.specs.declared.groups.GroupError.TheVariants as errors
use Rattle.packet_socket.specs.CallEffects.{EffectOf, Interrupting, Joining, Leaving, OfAnswer, Receiving, Request}
use Rattle.packet_socket.specs.CallEffects.{Sending, interrupted_in, joined_in, left_in, received_in, sent_in}
use Rattle.packet_socket.specs.declared.call.HostAnswer.{HostAnswer}
use Rattle.driver.specs.SendSteps.{SendAnswer}
use Rattle.driver.specs.declared.transmit.SendError.TheVariants.{RingFull, TooLong, TooShort}
use Rattle.packet_socket.specs.declared.receive.RecvError.{RecvError}
use Rattle.packet_socket.specs.declared.receive.RecvError.TheVariants.{Empty, NoSocket}
use Rattle.packet_socket.specs.HostEffects.{GroupAnswer, InterruptEffect, JoinEffect, LeaveEffect, MakesNoAccess, RecvEffect, SendEffect}
use Rattle.packet_socket.specs.HostState.{HostState}

pub passes-accesses : {B : Type 0} (bus : Ghosts B) (stages : CallStages) (old new : B) (past : Past) → PassesStages bus stages old new past
    → past.accesses ≡ accesses_in stages
passes-accesses bus Ends old new past it = ap (λ (p : Past). p.accesses) it.1
passes-accesses bus (Then made Holds later) old new past it =
    ap (λ (p : Past). p.accesses) it.whole
    ∙ ap (λ (list : List Access). list ++ it.behind.accesses) it.made_are
    ∙ ap (λ (list : List Access). made ++ list) (passes-accesses bus later it.middle new it.behind it.later)

pub flows-changed : (kind : ActKind) (up : Bool) (old new : DriverInWorld) (done : DriverDid) (past : Past)
    → changed_by kind up old new done past → FlowsTo up old new done past
flows-changed HandlesInterrupt up old new done past it = it.flows
flows-changed MovesFrames up old new done past it = it.flows
flows-changed SetsGroups up old new done past it = it.flows

pub own-host : (kind : ActKind) (counts : Counts) (accesses : List Access) → All (IsAccessOf kind counts) accesses
    → All (IsOfHost counts) accesses
own-host HandlesInterrupt counts accesses own = λ k d below. inl (own k d below)
own-host MovesFrames counts accesses own = λ k d below. inl (own k d below)
own-host SetsGroups counts accesses own = λ k d below. inr (own k d below)

-- If one meaning of `Runs` implies another, the effect with the first implies the effect with the second.
abbrev pub Maps : Effect → Type 1
Maps Does =
    (S : Type 0) (h h' : HostState) (world : World) (Runs : HostAct → Type 0) (Also : S → HostAct → Type 0)
    → ((act : HostAct) → Runs act → ((s : S) × Also s act)) → Does h h' Runs world → ((s : S) × Does h h' (Also s) world)

none-map : (S : Type 0) (h h' : HostState) (Runs : HostAct → Type 0) (Also : S → HostAct → Type 0)
    → ((act : HostAct) → Runs act → ((s : S) × Also s act)) → MakesNoAccess h h' Runs → ((s : S) × MakesNoAccess h h' (Also s))
none-map S h h' Runs Also run it = let ran = run _ it.runs in (ran.0, record { stays = it.stays; runs = ran.1 })

pub send-map : (frame : List ℕ) (result : SendAnswer) → Maps (SendEffect frame result)
send-map frame (Ok u) S h h' world Runs Also run it =
    let ran = run _ it.runs in
    (ran.0, record { sendable = it.sendable; freed = it.freed; some = it.some; others = it.others; runs = ran.1 })
send-map frame (Err TooShort) S h h' world Runs Also run it =
    let ran = none-map S h h' Runs Also run it.1 in (ran.0, (it.0, ran.1))
send-map frame (Err TooLong) S h h' world Runs Also run it =
    let ran = none-map S h h' Runs Also run it.1 in (ran.0, (it.0, ran.1))
send-map frame (Err RingFull) S h h' world Runs Also run it =
    let ran = run _ it.runs in
    (ran.0, record { sendable = it.sendable; full = it.full; still_full = it.still_full; stays = it.stays; runs = ran.1 })

pub recv-map : (socket : ℕ) (result : Result (List ℕ) RecvError) → Maps (RecvEffect socket result)
recv-map socket (Ok frame) S h h' world Runs Also run it =
    let ran = run _ it.runs in (
      ran.0,
      record {
        known = it.known;
        received = it.received;
        leaves = it.leaves;
        others = it.others;
        offered = it.offered;
        newest = it.newest;
        runs = ran.1;
      },
    )
recv-map socket (Err NoSocket) S h h' world Runs Also run it =
    let ran = none-map S h h' Runs Also run it.1 in (ran.0, (it.0, ran.1))
recv-map socket (Err Empty) S h h' world Runs Also run it =
    let ran = none-map S h h' Runs Also run it.2 in (ran.0, (it.0, it.1, ran.1))

pub interrupt-map : (result : Handled) → Maps (InterruptEffect result)
interrupt-map NotMine S h h' world Runs Also run it =
    let ran = run _ it.runs in
    (ran.0, record { causes = it.causes; none = it.none; stays = it.stays; runs = ran.1 })
interrupt-map (answers.Handled n) S h h' world Runs Also run it =
    let ran = run _ it.runs in (
      ran.0,
      record {
        causes = it.causes;
        some = it.some;
        missed = it.missed;
        taken = it.taken;
        frames = it.frames;
        unclaimed = it.unclaimed;
        least = it.least;
        served = it.served;
        only_receives = it.only_receives;
        loads = it.loads;
        runs = ran.1;
      },
    )

pub join-map : (group : List ℕ) (result : GroupAnswer) → Maps (JoinEffect group result)
join-map group (Ok u) S h h' world Runs Also run it =
    let ran = run _ it.runs in (
      ran.0,
      record {
        group_is = it.group_is;
        not_yet = it.not_yet;
        room = it.room;
        joined = it.joined;
        accesses = it.accesses;
        sets = it.sets;
        runs = ran.1;
      },
    )
join-map group (Err NotGroup) S h h' world Runs Also run it =
    let ran = none-map S h h' Runs Also run it.1 in (ran.0, (it.0, ran.1))
join-map group (Err errors.Joined) S h h' world Runs Also run it =
    let ran = none-map S h h' Runs Also run it.2 in (ran.0, (it.0, it.1, ran.1))
join-map group (Err GroupsFull) S h h' world Runs Also run it =
    let ran = none-map S h h' Runs Also run it.3 in (ran.0, (it.0, it.1, it.2, ran.1))
join-map group (Err NotJoined) S h h' world Runs Also run it = absurd it

pub leave-map : (group : List ℕ) (result : GroupAnswer) → Maps (LeaveEffect group result)
leave-map group (Ok u) S h h' world Runs Also run it =
    let ran = run _ it.runs in (
      ran.0,
      record {
        group_is = it.group_is;
        left = it.left;
        others = it.others;
        accesses = it.accesses;
        sets = it.sets;
        runs = ran.1;
      },
    )
leave-map group (Err NotGroup) S h h' world Runs Also run it =
    let ran = none-map S h h' Runs Also run it.1 in (ran.0, (it.0, ran.1))
leave-map group (Err NotJoined) S h h' world Runs Also run it =
    let ran = none-map S h h' Runs Also run it.2 in (ran.0, (it.0, it.1, ran.1))
leave-map group (Err errors.Joined) S h h' world Runs Also run it = absurd it
leave-map group (Err GroupsFull) S h h' world Runs Also run it = absurd it

answer-map : {R : Type 0} (result : Option R) (Does : R → Effect) → ((r : R) → Maps (Does r)) → Maps (OfAnswer result Does)
answer-map (Some result) Does maps = maps result
answer-map None Does maps = λ S h h' world Runs Also run it. absurd it

pub call-map : (request : Request) (answer : HostAnswer (List ℕ)) → Maps (EffectOf request answer)
call-map (Sending frame) answer = answer-map (sent_in answer) (SendEffect frame) (send-map frame)
call-map (Receiving socket) answer = answer-map (received_in answer) (RecvEffect socket) (recv-map socket)
call-map Interrupting answer = answer-map (interrupted_in answer) InterruptEffect interrupt-map
call-map (Joining group) answer = answer-map (joined_in answer) (JoinEffect group) (join-map group)
call-map (Leaving group) answer = answer-map (left_in answer) (LeaveEffect group) (leave-map group)
