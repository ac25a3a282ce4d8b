-- What holds of one host and the stations during a call holds of the network, of which only this host changes.
use Rattle.std.proofs.Common.{◌≡◌, ◌≢◌, ◌<◌, [], Bool, ℕ, List, length, length-set, set-set, Some, slice_get, slice_set, slice_index_or}
use Rattle.std.proofs.Common.{arith, refl, sym, ap, subst, ◌∙◌}
use Rattle.std.proofs.lemmas.List.{set-get_or}
use Rattle.std.proofs.lemmas.Option.{slice_get-get_or}
use Rattle.circular_buffer.proofs.Places.{slice_get-set_same}
use Rattle.packet_socket.specs.HostCalls.{HostReady}
use Rattle.packet_socket.specs.HostState.{HostState, queue_at}
use Rattle.stations.specs.Stations.{StationState, world_at}
use Rattle.stations.proofs.Lengths.{length-event, length-stays}
use Rattle.stations.specs.AtomicSteps.{At, AtomicStep, Idles, after_atomic}
use Rattle.host_calls.specs.CallsOfHosts.{StepsOfCall}
use Rattle.host_calls.specs.DrainedHosts.{CanBeDrained}
use Rattle.host_calls.specs.DrainSteps.{StepsOn, steps_of}
use Rattle.host_calls.specs.NetworkView.{HasStations, network_in}
use Rattle.host_calls.specs.declared.network.Network.TheInside.{Inside}
use Rattle.host_calls.specs.ConnectedHosts.{ConnectedHost, PlayedCall, connected}
use Rattle.host_calls.specs.Networks.{IsHost, NetworkState, OnlyHostChanges, connected_at, nth_host, host_or_empty}

-- the network with these hosts and stations
abbrev pub network : List HostState → List StationState → NetworkState
network hosts stations = record { hosts = hosts; stations = stations }

inside-hosts : (inside : Inside) {n : NetworkState} {k : ℕ} → network_in inside ≡ n → k < length n.hosts
    → k < length inside.hosts.items
inside-hosts inside {k = k} shown below = subst (λ (one : NetworkState). k < length one.hosts) (sym shown) below

-- The network has a host k, and `h` is this host.
pub record HasHost (inside : Inside) (n : NetworkState) (k : ℕ) (h : HostState) : Type 0 where
  pub shown : network_in inside ≡ n
  pub have : HasStations inside
  pub below : k < length n.hosts
  pub is : h ≡ nth_host n k

pub has-host : {inside : Inside} {n : NetworkState} {k : ℕ} {h : HostState} → network_in inside ≡ n → HasStations inside
    → k < length n.hosts → h ≡ slice_index_or inside.hosts.items k h → HasHost inside n k h
has-host {inside} {n} {k} {h} shown have below found =
    let same : inside.hosts.items ≡ n.hosts = ap (λ (one : NetworkState). one.hosts) shown in
    record {
      shown = shown;
      have = have;
      below = below;
      is = found
          ∙ sym (ap host_or_empty (slice_get-get_or inside.hosts.items k h (inside-hosts inside shown below)))
          ∙ ap (λ (list : List HostState). host_or_empty (slice_get list k)) same;
    }

pub still-has : {before after_atomic : List HostState} {k : ℕ} → after_atomic ≡ before → k < length before → k < length after_atomic
still-has {k = k} same = subst (λ (list : List HostState). k < length list) (sym same)

pub host-there : (n : NetworkState) (k : ℕ) → k < length n.hosts → IsHost n k (nth_host n k)
host-there n k below =
    let found = slice_get-get_or n.hosts k (nth_host n k) below in
    found ∙ ap (λ (host : HostState). Some host) (sym (ap host_or_empty found))

pub host-behind : (hosts : List HostState) (stations : List StationState) (k : ℕ) (h : HostState) → k < length hosts
    → nth_host (network (slice_set hosts k h) stations) k ≡ h
host-behind hosts stations k h below = ap host_or_empty (slice_get-set_same hosts k h below)

before-call : {inside : Inside} {n : NetworkState} {k : ℕ} {h : HostState} → HasHost inside n k h
    → connected h inside.stations ≡ connected_at n k
before-call {inside} {n} {k} here =
    ap (λ (one : HostState). connected one inside.stations) here.is
    ∙ ap (λ (one : NetworkState). connected (nth_host n k) one.stations) here.shown

pub ready-before : {inside : Inside} {n : NetworkState} {k : ℕ} {h : HostState} → HasHost inside n k h
    → HostReady (nth_host n k) (world_at n.stations k) → HostReady h (world_at inside.stations k)
ready-before {k = k} here =
    subst (λ (one : ConnectedHost). HostReady one.host (world_at one.stations k)) (sym (before-call here))

-- What holds of the host, the stations and the observer after a call holds of the network and the observer. The
-- stations and the observer were lent to the call.
pub after-call : {O : Type 0} {inside : Inside} {n : NetworkState} {k : ℕ} {h : HostState} {back : List StationState} {told' : O}
    (Holds : O → ConnectedHost → ConnectedHost → Type 0) (h' : HostState) (left : List StationState) (told : O) → HasHost inside n k h
    → back ≡ left → told' ≡ told → Holds told (connected h inside.stations) (connected h' left)
    → Holds told' (connected_at n k) (connected_at (network (slice_set inside.hosts.items k h') back) k)
after-call {O} {inside} {n} {k} {h} {back} {told'} Holds h' left told here same observed holds =
    let behind = host-behind inside.hosts.items back k h' (inside-hosts inside here.shown here.below) in
    subst (λ (old : ConnectedHost). Holds told' old (connected_at (network (slice_set inside.hosts.items k h') back) k)) (before-call here)
    (subst (λ (host : HostState). Holds told' (connected h inside.stations) (connected host back)) (sym behind)
    (subst (λ (list : List StationState). Holds told' (connected h inside.stations) (connected h' list)) (sym same)
    (subst (λ (observer : O). Holds observer (connected h inside.stations) (connected h' left)) (sym observed) holds)))

pub others-stay : {inside : Inside} {n : NetworkState} {k : ℕ} {h : HostState} (h' : HostState) (left : List StationState)
    → HasHost inside n k h → OnlyHostChanges k n (network (slice_set inside.hosts.items k h') left)
others-stay {inside} {n} {k} h' left here =
    let behind = host-behind inside.hosts.items left k h' (inside-hosts inside here.shown here.below) in
    ap (λ (one : NetworkState). slice_set one.hosts k h') here.shown
    ∙ ap (λ (one : HostState). slice_set n.hosts k one) (sym behind)

pub same-stations : {inside : Inside} {call : PlayedCall} {steps : List AtomicStep} {left back : List StationState} (k : ℕ) (h' : HostState)
    → HasStations inside → StepsOfCall call steps inside.stations left → back ≡ left
    → length back ≡ length (slice_set inside.hosts.items k h')
same-stations {inside} {call} {steps} {left} k h' have of_call returned =
    ap (λ (list : List StationState). length list) returned
    ∙ length-stays call.caller steps inside.stations left of_call.leads ∙ have.same ∙ sym (length-set inside.hosts.items k h')

pub length-played : (step : AtomicStep) (stations : List StationState) → length (after_atomic step stations) ≡ length stations
length-played (At host event) stations = length-event host event stations
length-played (Idles tick) stations = refl

-- A step of a drain changes only the stations of the network.
pub found-steps : {inside : Inside} {n : NetworkState} {k : ℕ} {took found : Bool} {left : List StationState} → network_in inside ≡ n
    → HasStations inside → took ≡ found
    → StepsOn (steps_of found) k [] (connected (nth_host n k) inside.stations) (connected (nth_host n k) left)
    → StepsOn (steps_of took) k [] (connected_at n k) (connected_at (network inside.hosts.items left) k)
found-steps {inside} {n} {k} {took} {found} {left} shown have same =
    subst (λ (one : NetworkState). StepsOn (steps_of found) k [] (connected (nth_host one k) inside.stations)
    (connected (nth_host one k) left)
    → StepsOn (steps_of took) k [] (connected_at one k) (connected_at (network inside.hosts.items left) k)) shown
    (subst (λ (b : Bool). StepsOn (steps_of b) k [] (connected_at (network_in inside) k)
    (connected_at (network inside.hosts.items left) k)) (sym same))

pub stations-are : {inside : Inside} {n : NetworkState} → network_in inside ≡ n → HasStations inside → n.stations ≡ inside.stations
stations-are shown have = sym (ap (λ (one : NetworkState). one.stations) shown)

pub drained-here : {inside : Inside} {n : NetworkState} {h : HostState} (k : ℕ) → network_in inside ≡ n → HasStations inside
    → CanBeDrained h (world_at n.stations k) → CanBeDrained h (world_at inside.stations k)
drained-here {h = h} k shown have =
    subst (λ (list : List StationState). CanBeDrained h (world_at list k)) (stations-are shown have)

pub station-there : {inside : Inside} {n : NetworkState} {k : ℕ} → network_in inside ≡ n → HasStations inside → k < length n.hosts
    → k < length inside.stations
station-there {inside} shown have below = omega (arith, have.same, inside-hosts inside shown below)

-- The first socket for which a frame waits.
pub first-waits : {inside : Inside} {n : NetworkState} {k : ℕ} {h : HostState} (socket : ℕ) → HasHost inside n k h
    → (socket < length h.kinds) × (queue_at h.queues socket ≢ [])
    → (socket < length (nth_host n k).kinds) × (queue_at (nth_host n k).queues socket ≢ [])
first-waits socket here =
    subst (λ (host : HostState). (socket < length host.kinds) × (queue_at host.queues socket ≢ [])) here.is

-- At most one host changed

pub only-same : (a b : NetworkState) (k : ℕ) → k < length a.hosts → b.hosts ≡ a.hosts → OnlyHostChanges k a b
only-same a b k below same =
    let own = nth_host b k in
    let found : own ≡ slice_index_or a.hosts k own =
    ap (λ (list : List HostState). host_or_empty (slice_get list k)) same ∙ ap host_or_empty (slice_get-get_or a.hosts k own below) in
    same ∙ sym (ap (λ (host : HostState). slice_set a.hosts k host) found ∙ set-get_or a.hosts k own)

pub only-join : (a b c : NetworkState) (k : ℕ) → OnlyHostChanges k a b → OnlyHostChanges k b c → OnlyHostChanges k a c
only-join a b c k one two =
    two
    ∙ ap (λ (list : List HostState). slice_set list k (nth_host c k)) one
    ∙ set-set a.hosts k (nth_host b k) (nth_host c k)

pub only-length : (a b : NetworkState) (k : ℕ) → OnlyHostChanges k a b → length b.hosts ≡ length a.hosts
only-length a b k only = ap (λ (list : List HostState). length list) only ∙ length-set a.hosts k (nth_host b k)
