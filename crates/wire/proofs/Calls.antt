-- The happenings of a call, and the fates in it, for each host.
use Rattle.std.proofs.Common.{◌≡◌, ◌≢◌, ◌++◌, ℕ, [], Bool, List, Option, if◌then◌else◌, inl, inr, map, refl, sym, ap, subst, ◌∙◌}
use Rattle.std.specs.List.{All}
use Rattle.std.specs.Prelude.{Err, Ok}
use Rattle.std.proofs.lemmas.Bool.Decides.{eqb_tells}
use Rattle.std.proofs.lemmas.List.{append-nil}
use Rattle.adapter.specs.World.{World}
use Rattle.adapter.proofs.Lists.{all-none}
use Rattle.adapter.specs.TickGroups.{without_go}
use Rattle.adapter.specs.bus_types.event.Access.{Access}
use Rattle.stations.specs.AtomicRuns.{LeadsTo, is_go, noted_of, past_at}
use Rattle.stations.specs.AtomicSteps.{AtomicStep, tick_of}
use Rattle.stations.specs.Stations.{StationState, world_at}
use Rattle.stations.specs.declared.outcomes.Numbered.{Numbered}
use Rattle.stations.specs.declared.tick.Tick.{Tick}
use Rattle.host_calls.proofs.ToldAround.{told-around_nothing}
use Rattle.host_calls.specs.Fates.{mark_by, marks}
use Rattle.host_calls.specs.Happenings.{Happening, happened_in, of_host, tick_happenings, tick_happenings_around}
use Rattle.network_plan.specs.Answers.{FrameAnswer, event_answer}
use Rattle.network_plan.specs.EventCalls.{EventCall}
use Rattle.network_plan.specs.declared.reply.Answer.TheVariants.{NoHost}
use Rattle.network_plan.specs.declared.reply.Answer.TheVariants as replied
use Rattle.packet_socket.specs.CallEffects.{EffectOf, Interrupting, Joining, Leaving, Receiving, Request, Sending, accepted_in, given_in}
use Rattle.packet_socket.specs.HostActs.{HostAct, IsAccessOf, IsGroupWrite}
use Rattle.packet_socket.specs.HostCalls.{Given}
use Rattle.packet_socket.specs.HostEffects.{MakesNoAccess}
use Rattle.packet_socket.specs.HostState.{HostState}
use Rattle.packet_socket.specs.declared.call.HostAnswer.{HostAnswer}
use Rattle.packet_socket.specs.declared.call.HostAnswer.TheVariants.{Interrupted, Joined, Left, Received, Sent}
use Rattle.host_calls.proofs.GroupsKept.{interrupt-stay, join-refused, leave-refused, none-stay, recv-stay, send-stay}
use Rattle.host_calls.specs.CallsInSteps.{InSteps}
use Rattle.host_calls.specs.ConnectedHosts.{ConnectedHost, connected}
use Rattle.wire.specs.Equations.{HostStands}
use Rattle.wire.specs.Runs.{accepted_by_answer, given_by_answer, joined_of, kind_of, left_by_answer, happenings_in_call}
use Rattle.wire.proofs.Delivering.{Tells}
use Rattle.wire.proofs.GroupsInForce.{Right, joined-right, left-right, stay-right}
use Rattle.wire.proofs.Tellings.{around-list, joined-adds_none, left-adds_none, marks-recv, marks-send}
use Rattle.wire.proofs.Tellings.{tells-call, tells-group, tells-recv, tells-send}

pub none-said : (host : ℕ) (request : Request) (ticks : List Tick) (outcomes : List Numbered)
    → happenings_in_call host request NoHost ticks outcomes ≡ tick_happenings ticks outcomes
none-said host (Sending frame) ticks outcomes = refl
none-said host (Receiving socket) ticks outcomes = append-nil (tick_happenings ticks outcomes)
none-said host Interrupting ticks outcomes = refl
none-said host (Joining group) ticks outcomes = told-around_nothing ticks outcomes
none-said host (Leaving group) ticks outcomes = told-around_nothing ticks outcomes

pub answer-some : (result : HostAnswer (List ℕ)) → event_answer result ≢ NoHost
answer-some (Sent result) = λ none. absurd (cc)
answer-some (Received result) = λ none. absurd (cc)
answer-some (Interrupted result) = λ none. absurd (cc)
answer-some (Joined result) = λ none. absurd (cc)
answer-some (Left result) = λ none. absurd (cc)

-- The happenings of a call of this host, by its answer, for host k (`Tells`). An answer of another kind of call has no
-- effect, so this case is impossible.
tells-request : (k host : ℕ) (request : Request) (result : HostAnswer (List ℕ)) (ticks : List Tick) (outcomes : List Numbered)
    (steps : List AtomicStep) (wires : ℕ → Option ℕ) (h h' : HostState) (Runs : HostAct → Type 0) (world : World)
    → EffectOf request result h h' Runs world → tick_happenings ticks outcomes ≡ happened_in steps
    → Tells k (happenings_in_call host request (event_answer result) ticks outcomes) steps wires (of_host k host (given_in request result))
    (of_host k host (accepted_in request result))
tells-request k host (Sending frame) (Sent result) ticks outcomes steps wires h h' Runs world does said =
    subst (λ (list : List Happening). Tells k (accepted_by_answer host frame (event_answer (Sent result)) ++ list) steps wires
    (of_host k host []) (of_host k host (accepted_in (Sending frame) (Sent result)))) (sym said)
    (tells-send k host frame result steps wires)
tells-request k host (Sending frame) _ ticks outcomes steps wires h h' Runs world does said = absurd does
tells-request k host (Receiving socket) (Received result) ticks outcomes steps wires h h' Runs world does said =
    subst (λ (list : List Happening). Tells k (list ++ given_by_answer host socket (event_answer (Received result))) steps wires
    (of_host k host (given_in (Receiving socket) (Received result))) (of_host k host [])) (sym said)
    (tells-recv k host socket result steps wires)
tells-request k host (Receiving socket) _ ticks outcomes steps wires h h' Runs world does said = absurd does
tells-request k host Interrupting (Interrupted result) ticks outcomes steps wires h h' Runs world does said =
    subst (λ (list : List Happening). Tells k list steps wires (of_host k host []) (of_host k host [])) (sym said)
    (tells-call k host steps wires)
tells-request k host Interrupting _ ticks outcomes steps wires h h' Runs world does said = absurd does
tells-request k host (Joining group) (Joined result) ticks outcomes steps wires h h' Runs world does said =
    let middle = joined_of host group (event_answer (Joined result)) in
    tells-group k host middle ticks outcomes steps wires (joined-adds_none k host group (event_answer (Joined result)) wires) said
tells-request k host (Joining group) _ ticks outcomes steps wires h h' Runs world does said = absurd does
tells-request k host (Leaving group) (Left result) ticks outcomes steps wires h h' Runs world does said =
    let middle = left_by_answer host group (event_answer (Left result)) in
    tells-group k host middle ticks outcomes steps wires (left-adds_none k host group (event_answer (Left result)) wires) said
tells-request k host (Leaving group) _ ticks outcomes steps wires h h' Runs world does said = absurd does

pub tells-said : (k : ℕ) (call : EventCall) (result : HostAnswer (List ℕ)) (steps : List AtomicStep) (wires : ℕ → Option ℕ)
    (h h' : HostState) (Runs : HostAct → Type 0) (world : World) → EffectOf call.request result h h' Runs world
    → tick_happenings call.ticks (noted_of 0 steps) ≡ happened_in steps
    → Tells k (happenings_in_call call.host call.request (event_answer result) call.ticks (noted_of 0 steps)) steps wires
    (of_host k call.host (given_in call.request result)) (of_host k call.host (accepted_in call.request result))
tells-said k call result steps wires h h' Runs world does said =
    tells-request k call.host call.request result call.ticks (noted_of 0 steps) steps wires h h' Runs world does said

-- Groups that were joined or left

pub of-others : {T : Type 0} (k host : ℕ) (list : List T) → k ≢ host → of_host k host list ≡ []
of-others {T} k host list other =
    elim (eqb_tells k host) [
      | inl same ↦ absurd (other same.1)
      | inr differ ↦ ap (λ (here : Bool). if here then list else []) differ.0
    ]

joined-elsewhere : (k host : ℕ) (group : List ℕ) (answer : FrameAnswer) → k ≢ host → marks k (joined_of host group answer) ≡ []
joined-elsewhere k host group (replied.Joined (Ok u)) other = append-nil _ ∙ of-others k host _ other
joined-elsewhere k host group _ other = refl

left-elsewhere : (k host : ℕ) (group : List ℕ) (answer : FrameAnswer) → k ≢ host → marks k (left_by_answer host group answer) ≡ []
left-elsewhere k host group (replied.Left (Ok u)) other = append-nil _ ∙ of-others k host _ other
left-elsewhere k host group _ other = refl

others-request : (k host : ℕ) (request : Request) (result : HostAnswer (List ℕ)) (ticks : List Tick) (outcomes : List Numbered)
    (steps : List AtomicStep) (h h' : HostState) (Runs : HostAct → Type 0) (world : World)
    → EffectOf request result h h' Runs world → tick_happenings ticks outcomes ≡ happened_in steps → k ≢ host
    → marks k (happenings_in_call host request (event_answer result) ticks outcomes) ≡ marks k (happened_in steps)
others-request k host (Sending frame) (Sent result) ticks outcomes steps h h' Runs world does said other =
    ap (λ (list : List Happening). marks k (accepted_by_answer host frame (event_answer (Sent result)) ++ list)) said
    ∙ marks-send k host frame result steps
others-request k host (Sending frame) _ ticks outcomes steps h h' Runs world does said other = absurd does
others-request k host (Receiving socket) (Received result) ticks outcomes steps h h' Runs world does said other =
    ap (λ (list : List Happening). marks k (list ++ given_by_answer host socket (event_answer (Received result)))) said
    ∙ marks-recv k host socket result steps
others-request k host (Receiving socket) _ ticks outcomes steps h h' Runs world does said other = absurd does
others-request k host Interrupting answer ticks outcomes steps h h' Runs world does said other = ap (marks k) said
others-request k host (Joining group) answer ticks outcomes steps h h' Runs world does said other =
    around-list (mark_by k) (joined_of host group (event_answer answer)) ticks outcomes
    (joined-elsewhere k host group (event_answer answer) other)
    ∙ ap (marks k) said
others-request k host (Leaving group) answer ticks outcomes steps h h' Runs world does said other =
    around-list (mark_by k) (left_by_answer host group (event_answer answer)) ticks outcomes
    (left-elsewhere k host group (event_answer answer) other)
    ∙ ap (marks k) said

pub others-said : (k : ℕ) (call : EventCall) (result : HostAnswer (List ℕ)) (steps : List AtomicStep)
    (h h' : HostState) (Runs : HostAct → Type 0) (world : World) → EffectOf call.request result h h' Runs world
    → tick_happenings call.ticks (noted_of 0 steps) ≡ happened_in steps → k ≢ call.host
    → marks k (happenings_in_call call.host call.request (event_answer result) call.ticks (noted_of 0 steps)) ≡ marks k (happened_in steps)
others-said k call result steps h h' Runs world does said other =
    others-request k call.host call.request result call.ticks (noted_of 0 steps) steps h h' Runs world does said other

-- The fates at the calling host are right by the groups in force

refused-right : (caller : ℕ) (ticks : List Tick) (steps : List AtomicStep) (a b : List StationState) (h h' : HostState)
    (given : List Given) → HostStands h (world_at a caller) → LeadsTo caller steps a b
    → tick_happenings ticks (noted_of 0 steps) ≡ happened_in steps
    → MakesNoAccess h h' (InSteps caller given steps (connected h a) (connected h' b))
    → Right caller (tick_happenings_around [] ticks (noted_of 0 steps)) a b h h'
refused-right caller ticks steps a b h h' given stands leads said it =
    stay-right caller caller steps (tick_happenings_around [] ticks (noted_of 0 steps)) a b h h' leads stands
    (none-stay caller given steps (connected h a) (connected h' b) it)
    (ap (marks caller) (told-around_nothing ticks (noted_of 0 steps) ∙ said))

right-request : (caller : ℕ) (request : Request) (result : HostAnswer (List ℕ)) (ticks : List Tick) (steps : List AtomicStep)
    (a b : List StationState) (h h' : HostState) (given : List Given) → HostStands h (world_at a caller) → LeadsTo caller steps a b
    → without_go is_go (map tick_of steps) ≡ without_go is_go ticks
    → tick_happenings ticks (noted_of 0 steps) ≡ happened_in steps
    → EffectOf request result h h' (InSteps caller given steps (connected h a) (connected h' b)) (world_at a caller)
    → Right caller (happenings_in_call caller request (event_answer result) ticks (noted_of 0 steps)) a b h h'
right-request caller (Sending frame) (Sent result) ticks steps a b h h' given stands leads played said does =
    stay-right caller caller steps (accepted_by_answer caller frame (event_answer (Sent result))
    ++ tick_happenings ticks (noted_of 0 steps)) a b h h' leads
    stands (send-stay frame result caller given steps (connected h a) (connected h' b) (world_at a caller) does)
    (ap (λ (list : List Happening). marks caller (accepted_by_answer caller frame (event_answer (Sent result)) ++ list)) said
    ∙ marks-send caller caller frame result steps)
right-request caller (Sending frame) _ ticks steps a b h h' given stands leads played said does = absurd does
right-request caller (Receiving socket) (Received result) ticks steps a b h h' given stands leads played said does =
    stay-right caller caller steps (tick_happenings ticks (noted_of 0 steps)
    ++ given_by_answer caller socket (event_answer (Received result))) a b h h' leads
    stands (recv-stay socket result caller given steps (connected h a) (connected h' b) (world_at a caller) does)
    (ap (λ (list : List Happening). marks caller (list ++ given_by_answer caller socket (event_answer (Received result)))) said
    ∙ marks-recv caller caller socket result steps)
right-request caller (Receiving socket) _ ticks steps a b h h' given stands leads played said does = absurd does
right-request caller Interrupting (Interrupted result) ticks steps a b h h' given stands leads played said does =
    stay-right caller caller steps (tick_happenings ticks (noted_of 0 steps)) a b h h' leads stands
    (interrupt-stay result caller given steps (connected h a) (connected h' b) (world_at a caller) does) (ap (marks caller) said)
right-request caller Interrupting _ ticks steps a b h h' given stands leads played said does = absurd does
right-request caller (Joining group) (Joined (Ok u)) ticks steps a b h h' given stands leads played said does =
    joined-right {ticks = ticks} group h' given (record { stands = stands; leads = leads; played = played }) does
right-request caller (Joining group) (Joined (Err error)) ticks steps a b h h' given stands leads played said does =
    refused-right caller ticks steps a b h h' given stands leads said (join-refused group error h h' _ (world_at a caller) does)
right-request caller (Joining group) _ ticks steps a b h h' given stands leads played said does = absurd does
right-request caller (Leaving group) (Left (Ok u)) ticks steps a b h h' given stands leads played said does =
    left-right {ticks = ticks} group h' given (record { stands = stands; leads = leads; played = played }) does
right-request caller (Leaving group) (Left (Err error)) ticks steps a b h h' given stands leads played said does =
    refused-right caller ticks steps a b h h' given stands leads said (leave-refused group error h h' _ (world_at a caller) does)
right-request caller (Leaving group) _ ticks steps a b h h' given stands leads played said does = absurd does

pub call-right : (call : EventCall) (result : HostAnswer (List ℕ)) (steps : List AtomicStep) (a b : List StationState) (h h' : HostState)
    (given : List Given) → HostStands h (world_at a call.host) → LeadsTo call.host steps a b
    → without_go is_go (map tick_of steps) ≡ without_go is_go call.ticks
    → tick_happenings call.ticks (noted_of 0 steps) ≡ happened_in steps
    → EffectOf call.request result h h' (InSteps call.host given steps (connected h a) (connected h' b)) (world_at a call.host)
    → Right call.host (happenings_in_call call.host call.request (event_answer result) call.ticks (noted_of 0 steps)) a b h h'
call-right call result steps a b h h' given stands leads played said does =
    right-request call.host call.request result call.ticks steps a b h h' given stands leads played said does

-- The accesses of the call are those of its kind

no-write : (k : ℕ) (given : List Given) (steps : List AtomicStep) (old new : ConnectedHost)
    → MakesNoAccess old.host new.host (InSteps k given steps old new) → All IsGroupWrite (past_at k steps).accesses
no-write k given steps old new it = subst (λ (list : List Access). All IsGroupWrite list) (sym it.runs.stages) (all-none IsGroupWrite)

pub call-own : (k : ℕ) (request : Request) (result : HostAnswer (List ℕ)) (given : List Given) (steps : List AtomicStep)
    (old new : ConnectedHost) (world : World) → EffectOf request result old.host new.host (InSteps k given steps old new) world
    → All (IsAccessOf (kind_of request) old.host.driver.layout) (past_at k steps).accesses
call-own k (Sending frame) (Sent result) given steps old new world does =
    (send-stay frame result k given steps old new world does).accesses
call-own k (Sending frame) _ given steps old new world does = absurd does
call-own k (Receiving socket) (Received result) given steps old new world does =
    (recv-stay socket result k given steps old new world does).accesses
call-own k (Receiving socket) _ given steps old new world does = absurd does
call-own k Interrupting (Interrupted result) given steps old new world does =
    (interrupt-stay result k given steps old new world does).accesses
call-own k Interrupting _ given steps old new world does = absurd does
call-own k (Joining group) (Joined (Ok u)) given steps old new world does = does.runs.own
call-own k (Joining group) (Joined (Err error)) given steps old new world does =
    no-write k given steps old new (join-refused group error old.host new.host _ world does)
call-own k (Joining group) _ given steps old new world does = absurd does
call-own k (Leaving group) (Left (Ok u)) given steps old new world does = does.runs.own
call-own k (Leaving group) (Left (Err error)) given steps old new world does =
    no-write k given steps old new (leave-refused group error old.host new.host _ world does)
call-own k (Leaving group) _ given steps old new world does = absurd does
