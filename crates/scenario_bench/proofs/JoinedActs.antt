-- `ActsLead` for events that were run, for a drain, and for consecutive acts.
use Rattle.std.proofs.Common.{◌≡◌, ◌++◌, ◌∷◌, [], ℕ, List, length, map, inl, inr, refl, sym, ap, subst, ◌∙◌}
use Rattle.std.proofs.Common.{append-nil, arith}
use Rattle.std.proofs.lemmas.Grind.{flat_map-append}
use Rattle.std.proofs.lemmas.Option.{slice_get_cases}
use Rattle.circular_buffer.proofs.Places.{slice_get-some}
use Rattle.packet_socket.specs.HostCalls.{Given as GivenFrame}
use Rattle.stations.specs.Stations.{wire_at, world_at}
use Rattle.host_calls.proofs.Waiting.{wires-stay}
use Rattle.host_calls.specs.Happenings.{Happening}
use Rattle.network_plan.specs.declared.event.Event.{Event}
use Rattle.network_plan.specs.declared.reply.Reply.{Reply}
use Rattle.scenario.specs.SoFar.{Said, command_of_event}
use Rattle.wire.specs.DrainedNetworks.{NetworkDrains, said_of_drain}
use Rattle.wire.specs.Equations.{MeetsEquations}
use Rattle.host_calls.specs.Networks.{NetworkState}
use Rattle.wire.specs.Runs.{RunsTo, StatesRun, caller_of, happenings, said}
use Rattle.wire.proofs.Running.{Deliver, deliver-both, runs-none}
use Rattle.run_record.specs.Acts.{Act, Drained, Ran, history, ran, said_in}
use Rattle.scenario_bench.specs.PlayedActs.{ActsLead, ActsRun, DrainRuns, act_of}

-- Events that were run

states-ran : (a : NetworkState) (events : List Event) (replies : List Reply) (b : NetworkState) → StatesRun a events replies b
    → ActsRun a (ran events replies) b
states-ran a [] [] b states = states
states-ran a [] (reply ∷ replies) b states = absurd states
states-ran a (event ∷ events) [] b states = absurd states
states-ran a (event ∷ events) (reply ∷ replies) b states = (states.0, states.1, states-ran states.0 events replies b states.2)

history-ran : (events : List Event) (replies : List Reply) → happenings events replies ≡ history (ran events replies)
history-ran [] replies = refl
history-ran (event ∷ events) [] = refl
history-ran (event ∷ events) (reply ∷ replies) = ap (λ (rest : List Happening). said event reply ++ rest) (history-ran events replies)

pub acts-ran : (a : NetworkState) (events : List Event) (replies : List Reply) (b : NetworkState) → StatesRun a events replies b
    → map act_of (ran events replies) ≡ map command_of_event events
acts-ran a [] [] b states = refl
acts-ran a [] (reply ∷ replies) b states = refl
acts-ran a (event ∷ events) [] b states = absurd states
acts-ran a (event ∷ events) (reply ∷ replies) b states =
    ap (λ (rest : List Said). command_of_event event ∷ rest) (acts-ran states.0 events replies b states.2)

pub leads-ran : (a : NetworkState) (events : List Event) (replies : List Reply) (b : NetworkState) (runs : RunsTo a events [] replies b)
    → ActsLead a (ran events runs.replies) b
leads-ran a events replies b runs = record {
  states = states-ran a events runs.replies b runs.states;
  hosts = runs.hosts;
  delivers = λ k h h' is now. subst (λ (happened : List Happening). MeetsEquations k happened a.stations b.stations h h')
      (history-ran events runs.replies) (runs.delivers k h h' is now);
}

pub leads-none : (a : NetworkState) → ActsLead a [] a
leads-none a = leads-ran a [] [] a (runs-none a [])

-- A host that was drained

pub leads-drained : (a : NetworkState) (host steps : ℕ) (given : List GivenFrame) (b : NetworkState)
    (drains : NetworkDrains a host steps [] given b)
    → ActsLead a (Drained host (length (world_at a.stations host).adapter.receiver.buffer) given ∷ []) b
leads-drained a host steps given b drains = record {
  states = (b, record { buffer = refl; steps = steps; drains = drains }, refl);
  hosts = drains.others.count;
  delivers = λ k h h' is now. subst (λ (happened : List Happening). MeetsEquations k happened a.stations b.stations h h')
      (ap (said_of_drain host buffered) (sym drains.appended) ∙ sym (append-nil (said_of_drain host buffered given)))
      (drains.delivers k h h' is now);
}
  where
    buffered : ℕ
    buffered = length (world_at a.stations host).adapter.receiver.buffer

-- The wires of all stations don't change

wires-drained : (a : NetworkState) (host buffered : ℕ) (given : List GivenFrame) (b : NetworkState) → DrainRuns a host buffered given b
    → (k : ℕ) → wire_at b.stations k ≡ wire_at a.stations k
wires-drained a host buffered given b runs k = elim (slice_get_cases a.hosts host).1 [
  | inl there ↦
      let now = slice_get-some b.hosts host
      (let below = there.1 in let same = runs.drains.others.count in omega (arith, below, same)) in
      let drains = runs.drains.drains there.0 now.0 there.2 now.1 in
      wires-stay host k drains.by.played a.stations b.stations drains.by.leads
  | inr past ↦ ap (λ (network : NetworkState). wire_at network.stations k) (runs.drains.absent past.0).2
]

wires-of : (a : NetworkState) (acts : List Act) (b : NetworkState) → ActsRun a acts b
    → (k : ℕ) → wire_at b.stations k ≡ wire_at a.stations k
wires-of a [] b states k = ap (λ (network : NetworkState). wire_at network.stations k) states
wires-of a (Ran event reply ∷ acts) b states k =
    wires-of states.0 acts b states.2 k
    ∙ wires-stay (caller_of event) k states.1.steps a.stations states.0.stations states.1.go.leads
wires-of a (Drained host buffered given ∷ acts) b states k =
    wires-of states.0 acts b states.2 k ∙ wires-drained a host buffered given states.0 states.1 k

-- Acts join

states-join : (a : NetworkState) (acts : List Act) (b : NetworkState) (later : List Act) (c : NetworkState)
    → ActsRun a acts b → ActsRun b later c → ActsRun a (acts ++ later) c
states-join a [] b later c one two = subst (λ (network : NetworkState). ActsRun network later c) one two
states-join a (act ∷ acts) b later c one two = (one.0, one.1, states-join one.0 acts b later c one.2 two)

pub leads-join : (a b c : NetworkState) (acts later : List Act) → ActsLead a acts b → ActsLead b later c → ActsLead a (acts ++ later) c
leads-join a b c acts later one two = record {
  states = states-join a acts b later c one.states two.states;
  hosts = two.hosts ∙ one.hosts;
  delivers =
      subst (λ (happened : List Happening). Deliver happened a c) (sym (flat_map-append said_in acts later))
      (deliver-both a b c (history acts) (history later) one.hosts (wires-of a acts b one.states) one.delivers two.delivers);
}
