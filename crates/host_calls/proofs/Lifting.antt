-- A host does in the steps of its network what it does over a lent bus.
use Rattle.std.proofs.Common.{◌≡◌, ◌++◌, [], ℕ, true, List, sym, ap, subst, ◌∙◌, append_assoc}
use Rattle.std.specs.List.{All}
use Rattle.std.proofs.lemmas.List.{append_cancel_right}
use Rattle.std.proofs.lemmas.List.Elements.{filter-append}
use Rattle.adapter.specs.HostFrames.{frames_held}
use Rattle.rx_filter.specs.Addresses.{ether_type}
use Rattle.adapter.specs.Pasts.{Past, nothing}
use Rattle.adapter.specs.bus_types.event.Access.{Access}
use Rattle.stations.specs.AtomicRuns.{past_at}
use Rattle.stations.specs.AtomicSteps.{AtomicStep}
use Rattle.stations.specs.LentBuses.{Finished, HappenedLent, world_here}
use Rattle.stations.specs.LentBusLaws.{lent_happened_none}
use Rattle.stations.specs.Stations.{StationState, world_at}
use Rattle.stations.specs.ToldTicks.{ComposesTold}
use Rattle.stations.specs.declared.lent_bus.LentBus.{LentBus}
use Rattle.stations.specs.declared.observer.Observer.{Ghosts as OfObserver}
use Rattle.packet_socket.specs.CallEffects.{EffectOf, Request, accepted_in, given_in}
use Rattle.packet_socket.specs.declared.call.HostAnswer.{HostAnswer}
use Rattle.packet_socket.specs.HostActs.{HostAct, OverBus, Effect, Ends, IsAccessOf, OnlyLastWrites, PassesStages, CallStages, Then}
use Rattle.packet_socket.specs.HostCalls.{
  Given,
  HostFlowsTo,
  HostReady,
  host_did,
  given_for,
  host_at,
  in_world,
  socket_frames,
  waiting_frames,
}
use Rattle.packet_socket.specs.HostState.{HostState}
use Rattle.packet_socket.specs.SocketKinds.{goes_to}
use Rattle.packet_socket.specs.declared.socket_kind.SocketKind.{SocketKind}
use Rattle.packet_socket.proofs.Effects.{Maps, call-map, own-host, flows-changed, passes-accesses}
use Rattle.host_calls.specs.CallsInSteps.{Calls, InSteps, MakesCall, MakesStages}
use Rattle.host_calls.specs.CallsOfHosts.{CallRuns, HostRuns}
use Rattle.host_calls.specs.ConnectedHosts.{connected}
use Rattle.host_calls.specs.LentCalls.{lent}
use Rattle.host_calls.proofs.Answering.{steps-tell_causes}
use Rattle.host_calls.proofs.Calling.{call-runs_by, lent_call, whole-accesses}
use Rattle.host_calls.proofs.HostTrails.{none-alone}
use Rattle.host_calls.proofs.LentIntervals.{lent_interval-ends, lent_intervals-join}

-- `HappenedLent` from the lent bus `a` to `m`; its steps, followed by the steps `last`, are those of these stages.
abbrev pub Told : {O : Type 0} {g : OfObserver O} (stages : CallStages) (a m : LentBus O g) (last : List AtomicStep) → Past → Type 0
Told stages a m last past = (interval : HappenedLent a m past) × MakesStages a.host stages (interval.steps ++ last) a.stations.now

stages-told : {O : Type 0} {g : OfObserver O} → ComposesTold g.heard → (stages : CallStages) (a m : LentBus O g) (last : List AtomicStep)
    (past : Past) → ((k : ℕ) → (past_at k last).accesses ≡ []) → PassesStages lent stages a m past → Told stages a m last past
stages-told {O} {g} composes Ends a m last past none it =
    let interval = subst (λ (p : Past). HappenedLent a m p) (sym it.1)
    (subst (λ (bus : LentBus O g). HappenedLent a bus nothing) (sym it.0) (lent_happened_none composes a)) in (
      interval,
      whole-accesses a.host interval.steps last (none a.host)
          ∙ ap (λ (p : Past). p.accesses) (sym interval.past_is) ∙ ap (λ (p : Past). p.accesses) it.1,
    )
stages-told {O} {g} composes (Then made Holds later) a m last past none it =
    let one = it.reports in
    let host = one.lent.host in
    let rest = stages-told composes later it.middle m last it.behind none it.later in
    let both = lent_intervals-join composes one rest.0 in
    subst (Told (Then made Holds later) a m last) (sym it.whole) (
      both.0,
      record {
        first = one.steps;
        rest = rest.0.steps ++ last;
        split = ap (λ (list : List AtomicStep). list ++ last) both.1 ∙ append_assoc one.steps rest.0.steps last;
        made_are = ap (λ (p : Past). p.accesses) (sym one.past_is) ∙ it.made_are;
        ends = lent_interval-ends a it.middle it.before one;
        middle = it.middle.stations.now;
        leads = one.leads;
        holds = subst (λ (k : ℕ). Holds (world_here a) (past_at a.host one.steps) (world_at it.middle.stations.now k)) host
            (subst (λ (p : Past). Holds (world_here a) p (world_here it.middle)) one.past_is it.holds);
        later = subst (λ (k : ℕ). MakesStages k later (rest.0.steps ++ last) it.middle.stations.now) host rest.1;
      },
    )

-- Frames that were taken were appended to their sockets' queues.

part-append : (kinds : List SocketKind) (socket : ℕ) (xs ys : List (List ℕ))
    → socket_frames kinds socket (xs ++ ys) ≡ socket_frames kinds socket xs ++ socket_frames kinds socket ys
part-append kinds socket xs ys = filter-append (λ (frame : List ℕ). goes_to kinds socket (ether_type frame)) xs ys

queue-grows : (kinds : List SocketKind) (socket : ℕ) (waiting before taken now held stored : List (List ℕ))
    → taken ++ now ≡ held ++ stored
    → waiting ++ socket_frames kinds socket now ≡ (before ++ socket_frames kinds socket held) ++ socket_frames kinds socket stored
    → waiting ≡ before ++ socket_frames kinds socket taken
queue-grows kinds socket waiting before taken now held stored left account =
    let part = socket_frames kinds socket in
    append_cancel_right waiting (before ++ part taken) (part now)
    (account
    ∙ append_assoc before (part held) (part stored)
    ∙ ap (λ (list : List (List ℕ)). before ++ list)
    (sym (part-append kinds socket held stored) ∙ ap part (sym left) ∙ part-append kinds socket taken now)
    ∙ sym (append_assoc before (part taken) (part now)))

queues-grow : (k socket : ℕ) (steps : List AtomicStep) (a b : List StationState) (h h' : HostState) (taken : List (List ℕ))
    (given : List Given) (accepted : List (List ℕ)) → HostRuns k steps (host_did taken given accepted) (connected h a) (connected h' b)
    → given_for socket given ++ waiting_frames h' socket (world_at b k)
    ≡ waiting_frames h socket (world_at a k) ++ socket_frames h.kinds socket taken
queues-grow k socket steps a b h h' taken given accepted runs =
    let held = frames_held h.driver.oldest_receive (world_at a k) in
    let now = frames_held h'.driver.oldest_receive (world_at b k) in
    let accounts = runs.flows.accounts in
    let gave = given_for socket given in
    let waiting = waiting_frames h' socket (world_at b k) in
    queue-grows h.kinds socket (gave ++ waiting) (waiting_frames h socket (world_at a k)) taken now held (past_at k steps).stored
    runs.flows.driver.holds
    (ap (λ (kinds : List SocketKind). (gave ++ waiting) ++ socket_frames kinds socket now) (sym accounts.kinds)
    ∙ append_assoc gave waiting (socket_frames h'.kinds socket now)
    ∙ accounts.sockets socket)

-- An act over a lent bus is an act in the steps of the network (`InSteps`): the steps of the call, followed by the
-- remaining ticks.
pub lift-act : {O : Type 0} {g : OfObserver O} → ComposesTold g.heard → (a m b : LentBus O g) (h h' : HostState) (given : List Given)
    (accepted : List (List ℕ)) → a.accesses ≡ 0 → HostReady h (world_here a) → Finished m b
    → (act : HostAct) → OverBus lent true given accepted (host_at a h) (host_at m h') act
    → ((runs : CallRuns (lent_call a b) given accepted (connected h a.stations.now) (connected h' b.stations.now))
    × InSteps a.host given runs.steps (connected h a.stations.now) (connected h' b.stations.now) act)
lift-act composes a m b h h' given accepted zero ready finished act it =
    let last = finished.plays.steps in
    let told = stages-told composes act.stages a m last it.past (λ k. none-alone k last finished.plays.are) it.stages in
    let only = passes-accesses lent act.stages a m it.past it.stages in
    let own = subst (λ (list : List Access). All (IsAccessOf act.kind h.driver.layout) list) (sym only) it.own in
    let flows : HostFlowsTo true (in_world h (world_here a)) (in_world h' (world_here m)) (host_did act.taken given accepted) it.past
    = record {
      sizes = it.changed.sizes;
      driver = flows-changed act.kind true _ _ _ _ it.changed.driver;
      accounts = it.changed.accounts;
    } in
    let made = call-runs_by composes a m b it.past h h' act.taken given accepted zero told.0 flows
    (own-host act.kind h.driver.layout it.past.accesses own)
    (subst OnlyLastWrites (sym only) it.last_writes) it.work it.refilled it.offered finished in
    let runs = made.0 in (
      runs,
      record {
        stages = subst (λ (steps : List AtomicStep). MakesStages a.host act.stages steps a.stations.now) (sym made.1) told.1;
        own = subst (λ (list : List Access). All (IsAccessOf act.kind h.driver.layout) list)
            (ap (λ (p : Past). p.accesses) told.0.past_is
            ∙ sym (whole-accesses a.host told.0.steps last (none-alone a.host last finished.plays.are))
            ∙ ap (λ (steps : List AtomicStep). (past_at a.host steps).accesses) (sym made.1)) own;
        left = subst (λ (taken : List (List ℕ)). taken ++ frames_held h'.driver.oldest_receive (world_at b.stations.now a.host)
            ≡ frames_held h.driver.oldest_receive (world_here a) ++ (past_at a.host runs.steps).stored) made.2
            runs.runs.flows.driver.holds;
        queues = λ socket.
            subst (λ (taken : List (List ℕ)). given_for socket given ++ waiting_frames h' socket (world_at b.stations.now a.host)
            ≡ waiting_frames h socket (world_here a) ++ socket_frames h.kinds socket taken) made.2
            (queues-grow a.host socket runs.steps a.stations.now b.stations.now h h' runs.taken given accepted runs.runs);
        icr = λ causes more reads.
            steps-tell_causes a.host runs.steps a.stations.now b.stations.now causes more h ready runs.of_call.leads
            (ap (λ (steps : List AtomicStep). (past_at a.host steps).accesses) made.1
            ∙ whole-accesses a.host told.0.steps last (none-alone a.host last finished.plays.are)
            ∙ ap (λ (p : Past). p.accesses) (sym told.0.past_is) ∙ only ∙ reads);
      },
    )

-- A call over a lent bus has the same effect in the steps of the network, for each effect whose acts can be replaced
-- (`Maps`).
lift-calls : {O : Type 0} {g : OfObserver O} → ComposesTold g.heard → (a m b : LentBus O g) (h h' : HostState) (given : List Given)
    (accepted : List (List ℕ)) (Does : Effect) → Maps Does → a.accesses ≡ 0 → HostReady h (world_here a) → Finished m b
    → Does h h' (OverBus lent true given accepted (host_at a h) (host_at m h')) (world_here a)
    → Calls (lent_call a b) given accepted Does (connected h a.stations.now) (connected h' b.stations.now)
lift-calls composes a m b h h' given accepted Does maps zero ready finished does =
    let made = maps (CallRuns (lent_call a b) given accepted (connected h a.stations.now) (connected h' b.stations.now)) h h' (world_here a)
    (OverBus lent true given accepted (host_at a h) (host_at m h'))
    (λ runs. InSteps a.host given runs.steps (connected h a.stations.now) (connected h' b.stations.now))
    (lift-act composes a m b h h' given accepted zero ready finished) does in
    record { runs = made.0; does = made.1 }

-- A call over a lent bus is this call in the steps of the network.
pub lift-call : {O : Type 0} {g : OfObserver O} {m b : LentBus O g} {h h' : HostState} → ComposesTold g.heard → (a : LentBus O g)
    (request : Request) (answer : HostAnswer (List ℕ)) → a.accesses ≡ 0 → HostReady h (world_here a) → Finished m b
    → EffectOf request answer h h'
    (OverBus lent true (given_in request answer) (accepted_in request answer) (host_at a h) (host_at m h')) (world_here a)
    → MakesCall (lent_call a b) request answer (connected h a.stations.now) (connected h' b.stations.now)
lift-call {m = m} {b} {h} {h'} composes a request answer =
    lift-calls composes a m b h h' (given_in request answer) (accepted_in request answer) (EffectOf request answer)
    (call-map request answer)
