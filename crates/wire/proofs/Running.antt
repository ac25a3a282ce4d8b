-- `EventRuns` for each kind of event, and runs of several events.
use Rattle.std.proofs.Common.{◌≡◌, ◌++◌, ◌∷◌, [], ℕ, List, Some, length, refl, sym, ap}
use Rattle.std.proofs.Common.{subst, ◌∙◌, append_assoc, arith}
use Rattle.std.proofs.lemmas.List.{append-nil}
use Rattle.std.proofs.lemmas.Option.{slice_get_within}
use Rattle.circular_buffer.proofs.Places.{slice_get-some}
use Rattle.packet_socket.specs.HostState.{HostState}
use Rattle.stations.specs.AtomicSteps.{AtomicStep}
use Rattle.stations.specs.Stations.{StationState, wire_at}
use Rattle.stations.specs.declared.tick.Tick.{Tick}
use Rattle.host_calls.proofs.Waiting.{wires-stay}
use Rattle.host_calls.specs.Happenings.{Happening, lone_tick_happenings}
use Rattle.network_plan.specs.declared.event.Event.{Event}
use Rattle.network_plan.specs.EventCalls.{Alone, ByCall, ByReset, EventCall, EventKind, in_event}
use Rattle.network_plan.specs.declared.reply.Reply.{Reply}
use Rattle.wire.specs.Equations.{MeetsEquations, NetworkStands}
use Rattle.wire.specs.Runs.{EventRuns, HostsGo, IsEventAnswer, IsReply, RunTold, RunsTo, StatesRun}
use Rattle.wire.specs.Runs.{caller_in, caller_of, happenings, said, kind_happenings}
use Rattle.wire.specs.PlayedCalls.{CallPlayed, ResetPlayed, TickPlayed}
use Rattle.host_calls.specs.ConnectedHosts.{connected}
use Rattle.host_calls.specs.Networks.{IsHost, NetworkState}
use Rattle.stations.specs.ToldTicks.{ComposesTold, TickTold}
use Rattle.wire.specs.RunObservers.{ComposesRuns, EventTold}
use Rattle.wire.proofs.Delivering.{delivers-join, delivers-none}
use Rattle.wire.proofs.Playing.{ticks-go}

-- Events

-- An event of this kind, with this reply, leads from the network `old` to the network `new` (`EventRuns`).
pub record KindRuns (kind : EventKind) (old : NetworkState) (reply : Reply) (new : NetworkState) : Type 0 where
  pub stood : NetworkStands old
  pub steps : List AtomicStep
  pub go : HostsGo (caller_in kind) (kind_happenings kind reply) steps old new
  pub replied : IsReply kind reply steps old new
  pub answer : (h h' : HostState) → IsHost old (caller_in kind) h → IsHost new (caller_in kind) h'
      → IsEventAnswer kind reply.answer steps (connected h old.stations) (connected h' new.stations)

pub event-runs : {args old : NetworkState} {event : Event} {kind : EventKind} {reply : Reply} {new : NetworkState} → old ≡ args
    → in_event event ≡ kind → KindRuns kind old reply new → EventRuns args event reply new
event-runs {args} {old} {event} {kind} {reply} {new} old_is is runs =
    let of = subst (λ (k : EventKind). KindRuns k args reply new) (sym is)
    (subst (λ (network : NetworkState). KindRuns kind network reply new) old_is runs) in
    record { stood = of.stood; steps = of.steps; go = of.go; replied = of.replied; answer = of.answer }

pub call-runs : {call : EventCall} {reply : Reply} {old new : NetworkState} → CallPlayed call reply old new → NetworkStands old
    → KindRuns (ByCall call) old reply new
call-runs played stood = record { stood = stood; steps = played.steps; go = played.go; replied = played.replied; answer = played.answer }

pub reset-runs : {host : ℕ} {ticks : List Tick} {reply : Reply} {old new : NetworkState} → ResetPlayed host ticks reply old new
    → NetworkStands old → KindRuns (ByReset host ticks) old reply new
reset-runs played stood = record { stood = stood; steps = played.steps; go = played.go; replied = played.replied; answer = played.answer }

pub tick-runs : (old : NetworkState) (stations : List StationState) (tick : Tick) (reply : Reply) → NetworkStands old
    → TickPlayed tick reply old.stations stations → KindRuns (Alone tick) old reply (record { hosts = old.hosts; stations = stations })
tick-runs old stations tick reply stands played =
    let replied = played.replied old.hosts in
    record {
      stood = stands;
      steps = played.steps;
      go = ticks-go 0 (lone_tick_happenings tick reply.outcomes.list) played.steps old stations stands played.are played.leads played.said;
      replied = replied;
      answer = λ was is then now. replied.answer;
    }

-- Runs

states-more : (old : NetworkState) (events : List Event) (replies : List Reply) (middle : NetworkState) (event : Event) (reply : Reply)
    (new : NetworkState)
    → StatesRun old events replies middle → EventRuns middle event reply new → StatesRun old (events ++ event ∷ [])
    (replies ++ reply ∷ []) new
states-more old [] [] middle event reply new states runs =
    (new, subst (λ (network : NetworkState). EventRuns network event reply new) states runs, refl)
states-more old [] (first ∷ replies) middle event reply new states runs = absurd states
states-more old (first ∷ events) [] middle event reply new states runs = absurd states
states-more old (first ∷ events) (one ∷ replies) middle event reply new states runs =
    (states.0, states.1, states-more states.0 events replies middle event reply new states.2 runs)

happenings-more : (old : NetworkState) (events : List Event) (replies : List Reply) (middle : NetworkState) (event : Event) (reply : Reply)
    → StatesRun old events replies middle
    → happenings (events ++ event ∷ []) (replies ++ reply ∷ []) ≡ happenings events replies ++ said event reply
happenings-more old [] [] middle event reply states = append-nil (said event reply)
happenings-more old [] (first ∷ replies) middle event reply states = absurd states
happenings-more old (first ∷ events) [] middle event reply states = absurd states
happenings-more old (first ∷ events) (one ∷ replies) middle event reply states =
    ap (λ (list : List Happening). said first one ++ list) (happenings-more states.0 events replies middle event reply states.2)
    ∙ sym (append_assoc (said first one) (happenings events replies) (said event reply))

wires-of : (old : NetworkState) (events : List Event) (replies : List Reply) (new : NetworkState) → StatesRun old events replies new
    → (host : ℕ) → wire_at new.stations host ≡ wire_at old.stations host
wires-of old [] [] new states host = ap (λ (network : NetworkState). wire_at network.stations host) states
wires-of old [] (first ∷ replies) new states host = absurd states
wires-of old (first ∷ events) [] new states host = absurd states
wires-of old (first ∷ events) (one ∷ replies) new states host =
    wires-of states.0 events replies new states.2 host
    ∙ wires-stay (caller_of first) host states.1.steps old.stations states.0.stations states.1.go.leads

-- the equations of each host, between two networks
abbrev pub Deliver : List Happening → (old new : NetworkState) → Type 0
Deliver happened old new =
    (k : ℕ) (was now : HostState) → IsHost old k was → IsHost new k now → MeetsEquations k happened old.stations new.stations was now

pub deliver-both : (a b c : NetworkState) (first later : List Happening) → length b.hosts ≡ length a.hosts
    → ((host : ℕ) → wire_at b.stations host ≡ wire_at a.stations host) → Deliver first a b → Deliver later b c
    → Deliver (first ++ later) a c
deliver-both a b c first later hosts wires one two k was now then here =
    let below = slice_get_within a.hosts k was then in
    let some = slice_get-some b.hosts k (omega (arith, below, hosts)) in
    delivers-join k first later a.stations b.stations c.stations was some.0 now wires (one k was some.0 then some.1)
    (two k some.0 now some.1 here)

pub runs-none : (old : NetworkState) (before : List Reply) → RunsTo old [] before before old
runs-none old before = record {
  replies = [];
  appended = sym (append-nil before);
  states = refl;
  hosts = refl;
  delivers = λ k was is then now.
      let same : is ≡ was = let e : Some was ≡ Some is = sym then ∙ now in cc in
      subst (λ (host : HostState). MeetsEquations k [] old.stations old.stations was host) (sym same)
      (delivers-none k old.stations was);
}

pub runs-more : (old : NetworkState) (events : List Event) (before behind : List Reply) (middle : NetworkState) (event : Event)
    (reply : Reply) (last : List Reply) (new : NetworkState)
    → RunsTo old events before behind middle → EventRuns middle event reply new → last ≡ behind ++ reply ∷ []
    → RunsTo old (events ++ event ∷ []) before last new
runs-more old events before behind middle event reply last new runs one is = record {
  replies = runs.replies ++ reply ∷ [];
  appended =
      is ∙ ap (λ (list : List Reply). list ++ reply ∷ []) runs.appended ∙ append_assoc before runs.replies (reply ∷ []);
  states = states-more old events runs.replies middle event reply new runs.states one;
  hosts = one.go.hosts ∙ runs.hosts;
  delivers =
      subst (λ (happened : List Happening). Deliver happened old new)
      (sym (happenings-more old events runs.replies middle event reply runs.states))
      (deliver-both old middle new (happenings events runs.replies) (said event reply) runs.hosts
      (wires-of old events runs.replies middle runs.states) runs.delivers one.go.delivers);
}

-- What an observer is told of runs

pub told-none : {O : Type 0} {heard : O → O → List TickTold → Type 0} {ran : O → O → List Event → List Reply → Type 0}
    {ready : O → Event → Type 0} → ComposesRuns heard ran ready → ComposesTold heard → (old : NetworkState) (from : O)
    → RunTold ran [] old old from from
told-none runs ticks old from = record { replies = []; told = runs.quiet from from (ticks.stays from); runs = runs-none old [] }

pub told-asked : {O : Type 0} {heard : O → O → List TickTold → Type 0} {ran : O → O → List Event → List Reply → Type 0}
    {ready : O → Event → Type 0} → ComposesRuns heard ran ready → (events : List Event) (old new : NetworkState) (from to asked : O)
    → RunTold ran events old new from to → heard to asked [] → RunTold ran events old new from asked
told-asked {O} {heard} {ran} runs events old new from to asked told nothing = record {
  replies = told.replies;
  told =
      subst (λ (replies : List Reply). ran from asked events replies) (append-nil told.replies)
      (subst (λ (list : List Event). ran from asked list (told.replies ++ [])) (append-nil events)
      (runs.joins from to asked events [] told.replies [] told.told (runs.quiet to asked nothing)));
  runs = told.runs;
}

pub told-more : {O : Type 0} {heard : O → O → List TickTold → Type 0} {ran : O → O → List Event → List Reply → Type 0}
    {ready : O → Event → Type 0} → ComposesRuns heard ran ready → (events : List Event) (event : Event) (old mid new : NetworkState)
    (from to later : O)
    → RunTold ran events old mid from to → EventTold ran event to later (λ reply. EventRuns mid event reply new)
    → RunTold ran (events ++ event ∷ []) old new from later
told-more runs events event old mid new from to later told one = record {
  replies = told.replies ++ one.reply ∷ [];
  told = runs.joins from to later events (event ∷ []) told.replies (one.reply ∷ []) told.told one.told;
  runs = runs-more old events [] told.replies mid event one.reply (told.replies ++ one.reply ∷ []) new told.runs one.holds refl;
}

-- Runs join

states-join : (old : NetworkState) (events : List Event) (replies : List Reply) (middle : NetworkState) (later : List Event)
    (more : List Reply) (new : NetworkState)
    → StatesRun old events replies middle → StatesRun middle later more new → StatesRun old (events ++ later) (replies ++ more) new
states-join old [] [] middle later more new one two = subst (λ (network : NetworkState). StatesRun network later more new) one two
states-join old [] (first ∷ replies) middle later more new one two = absurd one
states-join old (first ∷ events) [] middle later more new one two = absurd one
states-join old (first ∷ events) (reply ∷ replies) middle later more new one two =
    (one.0, one.1, states-join one.0 events replies middle later more new one.2 two)

happenings-join : (old : NetworkState) (events : List Event) (replies : List Reply) (middle : NetworkState) (later : List Event)
    (more : List Reply)
    → StatesRun old events replies middle
    → happenings (events ++ later) (replies ++ more) ≡ happenings events replies ++ happenings later more
happenings-join old [] [] middle later more states = refl
happenings-join old [] (first ∷ replies) middle later more states = absurd states
happenings-join old (first ∷ events) [] middle later more states = absurd states
happenings-join old (first ∷ events) (reply ∷ replies) middle later more states =
    ap (λ (list : List Happening). said first reply ++ list) (happenings-join states.0 events replies middle later more states.2)
    ∙ sym (append_assoc (said first reply) (happenings events replies) (happenings later more))

pub runs-join : (a b c : NetworkState) (events later : List Event) (before between behind : List Reply)
    → RunsTo a events before between b → RunsTo b later between behind c → RunsTo a (events ++ later) before behind c
runs-join a b c events later before between behind one two = record {
  replies = one.replies ++ two.replies;
  appended =
      two.appended ∙ ap (λ (list : List Reply). list ++ two.replies) one.appended ∙ append_assoc before one.replies two.replies;
  states = states-join a events one.replies b later two.replies c one.states two.states;
  hosts = two.hosts ∙ one.hosts;
  delivers =
      subst (λ (happened : List Happening). Deliver happened a c)
      (sym (happenings-join a events one.replies b later two.replies one.states))
      (deliver-both a b c (happenings events one.replies) (happenings later two.replies) one.hosts
      (wires-of a events one.replies b one.states) one.delivers two.delivers);
}
