-- The contract of a drain of one host, for all hosts of the network.
use Rattle.std.proofs.Common.{◌≡◌, ◌≤◌, ◌<◌, ◌^◌, ◌++◌, [], ℕ, List, Option, Some, None, ⊎_elim}
use Rattle.std.proofs.Common.{length, replicate, slice_set, refl, sym, ap, subst, ◌∙◌, arith}
use Rattle.std.proofs.lemmas.Bool.{cases_lt}
use Rattle.std.proofs.lemmas.List.{append-nil, length-set}
use Rattle.std.proofs.lemmas.Option.{slice_get_past, slice_get_within}
use Rattle.circular_buffer.proofs.Places.{slice_get-set_other}
use Rattle.adapter.specs.World.{World}
use Rattle.packet_socket.specs.HostState.{HostState}
use Rattle.packet_socket.specs.HostCalls.{Given}
use Rattle.stations.specs.AtomicSteps.{AtomicStep}
use Rattle.stations.specs.Stations.{StationState, wire_at, world_at, world_of}
use Rattle.host_calls.specs.Fates.{marks}
use Rattle.host_calls.specs.Happenings.{Happening, Moved, happened_in, of_host}
use Rattle.host_calls.specs.DrainedHosts.{CanBeDrained, Drains, DrainsInto, KeepsMisses}
use Rattle.host_calls.specs.ConnectedHosts.{connected}
use Rattle.wire.specs.DrainedNetworks.{KeepsCount, NetworkDrains, said_of_drain}
use Rattle.wire.specs.Equations.{MeetsEquations, HostStands, IsExact, NetworkStands, missed_count, sum_of}
use Rattle.wire.specs.Runs.{HostsGo}
use Rattle.host_calls.specs.Networks.{IsHost, NetworkState, OnlyHostChanges, connected_at, nth_host}
use Rattle.host_calls.proofs.HostsOfNetworks.{host-there}
use Rattle.wire.proofs.Delivering.{Tells, delivers-none}
use Rattle.wire.proofs.Playing.{hosts-as}
use Rattle.wire.proofs.GroupsInForce.{stay-right}
use Rattle.wire.proofs.Standing.{caller-behind, each-right, each-runs, hosts-go}
use Rattle.wire.proofs.Tellings.{gives, marks-given, tells-given}

pub can-drain : (host : HostState) (world : World) → HostStands host world → CanBeDrained host world
can-drain host world stands = record {
  ready = stands.ready;
  work = stands.work;
  refilled = stands.refilled;
  offered = stands.offered;
  enabled = stands.can.receives;
}

tells-drain : (k host moves : ℕ) (list : List Given) (steps : List AtomicStep) (wires : ℕ → Option ℕ)
    → happened_in steps ≡ replicate moves (Moved host)
    → Tells k (said_of_drain host moves list) steps wires (of_host k host list) (of_host k host [])
tells-drain k host moves list steps wires moved =
    subst (λ (happened : List Happening). Tells k (happened ++ gives host list) steps wires (of_host k host list) (of_host k host [])) moved
    (tells-given k host list steps wires)

marks-drain : (k host moves : ℕ) (list : List Given) (steps : List AtomicStep) → happened_in steps ≡ replicate moves (Moved host)
    → marks k (said_of_drain host moves list) ≡ marks k (happened_in steps)
marks-drain k host moves list steps moved =
    ap (λ (happened : List Happening). marks k (happened ++ gives host list)) (sym moved) ∙ marks-given k host list steps

-- A host that exists

same-counted : (h : HostState) (a : World) (h' : HostState) (b : World) → KeepsMisses h a h' b → missed_count h' b ≡ missed_count h a
same-counted h a h' b keeps =
    ⊎_elim
    (λ (fits : sum_of h a < 2 ^ 64). let same = keeps.sum fits in omega (arith, same))
    (λ (much : 2 ^ 64 ≤ sum_of h a). let stuck = keeps.sticks (omega (arith, much)) in omega (arith, stuck, much))
    (cases_lt (sum_of h a) (2 ^ 64))

stays-exact : (h : HostState) (a : World) (h' : HostState) (b : World) → KeepsMisses h a h' b → IsExact h a → IsExact h' b
stays-exact h a h' b keeps is =
    let fits : sum_of h a < 2 ^ 64 = let most = is.fits in omega (arith, most) in
    let same = keeps.sum fits in
    let both = keeps.exact is.exact is.below_greatest fits in
    record { exact = both.0; below_greatest = both.1; fits = omega (arith, same, fits) }

set-drained : (old : NetworkState) (stations : List StationState) (host steps : ℕ) (h h' : HostState) (before behind : List Given)
    → NetworkStands old → IsHost old host h → host < length old.hosts
    → DrainsInto steps host before behind (connected h old.stations) (connected h' stations)
    → NetworkDrains old host steps before behind (record { hosts = slice_set old.hosts host h'; stations = stations })
set-drained old stations host steps h h' before behind stands there below into =
    let drains = into.drains in
    let new : NetworkState = record { hosts = slice_set old.hosts host h'; stations = stations } in
    let moves = length (world_at old.stations host).adapter.receiver.buffer in
    let go : HostsGo host (said_of_drain host moves into.given) drains.by.played old new =
    hosts-go host (said_of_drain host moves into.given) drains.by.played old new
    (λ k. of_host k host drains.by.taken) (λ k. of_host k host into.given) (λ k. of_host k host []) stands drains.by.leads
    (length-set old.hosts host h')
    (λ k was is first now.
    each-runs host k drains.by.played old.stations stations old.hosts h h' was is drains.by.taken into.given [] drains.by.leads there
    drains.by.runs first now (stands.each k was first).ready)
    (λ k was is first now.
    each-right host k drains.by.played (said_of_drain host moves into.given) old.stations stations old.hosts h h' was is drains.by.leads
    there (stay-right host host drains.by.played (said_of_drain host moves into.given) old.stations stations h h' drains.by.leads
    (stands.each host h there) drains.by.stay (marks-drain host host moves into.given drains.by.played drains.by.moved))
    (λ other. marks-drain k host moves into.given drains.by.played drains.by.moved) first now (stands.each k was first))
    (λ k. tells-drain k host moves into.given drains.by.played (wire_at old.stations) drains.by.moved) in
    record {
      given = into.given;
      appended = into.appended;
      drains = λ was is first now.
          let before_is : was ≡ h = (let e : Some h ≡ Some was = sym there ∙ first in cc) in
          let behind_is : is ≡ h' = caller-behind old.hosts host h h' is there now in
          subst (λ (w : HostState). Drains steps host into.given (connected w old.stations) (connected is stations)) (sym before_is)
          (subst (λ (w : HostState). Drains steps host into.given (connected h old.stations) (connected w stations))
          (sym behind_is) drains);
      counts = λ was is first now.
          let before_is : was ≡ h = (let e : Some h ≡ Some was = sym there ∙ first in cc) in
          let behind_is : is ≡ h' = caller-behind old.hosts host h h' is there now in
          let a = world_at old.stations host in
          let b = world_at stations host in
          subst (λ (w : HostState). KeepsCount w a is b) (sym before_is)
          (subst (λ (w : HostState). KeepsCount h a w b) (sym behind_is)
          (record {
            counted = same-counted h a h' b drains.misses;
            exact = (
              λ exact. ((go.delivers host h h' there (subst (IsHost new host) behind_is now)).misses_are_counted.exactly exact).0,
              stays-exact h a h' b drains.misses,
            );
          }));
      absent = λ past. absurd (omega (arith, past, below));
      others = record { count = go.hosts; same = λ k other. slice_get-set_other old.hosts host k h' other };
      delivers = go.delivers;
      stands = go.stands;
    }

pub host-drained : (old new : NetworkState) (host steps : ℕ) (before behind : List Given) → NetworkStands old → host < length old.hosts
    → OnlyHostChanges host old new → DrainsInto steps host before behind (connected_at old host) (connected_at new host)
    → NetworkDrains old host steps before behind new
host-drained old new host steps before behind stands below only into =
    hosts-as (NetworkDrains old host steps before behind) new _ only
    (set-drained old new.stations host steps (nth_host old host) (nth_host new host) before behind stands (host-there old host below) below
    into)

pub absent-drained : (old : NetworkState) (host : ℕ) (before : List Given) → NetworkStands old → length old.hosts ≤ host
    → NetworkDrains old host 0 before before old
absent-drained old host before stands past =
    let nobody = slice_get_past old.hosts host past in
    let nowhere = slice_get_past old.stations host (let same = stands.same in omega (arith, past, same)) in
    let none : length (world_at old.stations host).adapter.receiver.buffer ≡ 0 =
    ap (λ (o : Option StationState). length (world_of o).adapter.receiver.buffer) nowhere in
    record {
      given = [];
      appended = sym (append-nil before);
      drains = λ was is first now. absurd (let e : Some was ≡ None = sym first ∙ nobody in cc);
      counts = λ was is first now. absurd (let e : Some was ≡ None = sym first ∙ nobody in cc);
      absent = λ beyond. (refl, refl, refl);
      others = record { count = refl; same = λ k other. refl };
      delivers = λ k was is first now.
          let same : is ≡ was = (let e : Some was ≡ Some is = sym first ∙ now in cc) in
          subst (λ (n : ℕ). MeetsEquations k (said_of_drain host n []) old.stations old.stations was is) (sym none)
          (subst (λ (w : HostState). MeetsEquations k [] old.stations old.stations was w) (sym same) (delivers-none k old.stations was));
      stands = stands;
    }

-- no host has a number at or above the number of hosts
pub no-host : {A : Type 0} (n : NetworkState) (k : ℕ) (state : HostState) → length n.hosts ≤ k → IsHost n k state → A
no-host n k state past is = absurd (let below = slice_get_within n.hosts k state is in omega (arith, below, past))
