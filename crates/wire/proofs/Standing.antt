-- `HostStands` holds for each host after each event.
use Rattle.std.proofs.Common.{◌≡◌, ◌≢◌, ◌<◌, [], ℕ, Bool, List, Some, inl, inr}
use Rattle.std.proofs.Common.{length, slice_get}
use Rattle.std.proofs.Common.{sym, subst, ◌∙◌, arith, if◌then◌else◌, slice_set}
use Rattle.std.specs.Prelude.{IsTrue}
use Rattle.std.proofs.lemmas.Bool.Decides.{eqb_tells}
use Rattle.std.proofs.lemmas.Option.{slice_get_past, slice_get_within}
use Rattle.circular_buffer.proofs.Places.{slice_get-set_other, slice_get-set_same, slice_get-some}
use Rattle.registers.specs.Counting.{greatest_count}
use Rattle.adapter.specs.World.{World}
use Rattle.stations.specs.AtomicSteps.{AtomicStep}
use Rattle.stations.specs.Stations.{StationState, wire_at, world_at}
use Rattle.stations.proofs.HostTrails.{trail-of}
use Rattle.stations.specs.AtomicRuns.{LeadsTo, events_at, past_at}
use Rattle.adapter.proofs.FramesCounted.{slots_have_frames}
use Rattle.adapter.specs.Calls.{HasNoForgottenWork, IsRefilled}
use Rattle.packet_socket.specs.HostCalls.{Given, HostReady, host_did, driver_of}
use Rattle.packet_socket.specs.HostState.{HostState}
use Rattle.stations.proofs.Lengths.{length-stays}
use Rattle.host_calls.specs.Fates.{marks}
use Rattle.host_calls.specs.Happenings.{Happening, happened_in, of_host}
use Rattle.host_calls.proofs.Ticks.{absent-nothing}
use Rattle.host_calls.specs.CountedHosts.{CanAnswer}
use Rattle.host_calls.proofs.Calling.{others-run, ready-behind}
use Rattle.host_calls.proofs.GroupsKept.{stay-alone}
use Rattle.host_calls.proofs.HostTrails.{none-elsewhere}
use Rattle.bring_up.specs.ConfiguredAdapters.{HasSetup}
use Rattle.bring_up.specs.Groups.{HasTable}
use Rattle.host_calls.specs.CallsOfHosts.{HostRuns}
use Rattle.host_calls.specs.ConnectedHosts.{connected}
use Rattle.wire.specs.Equations.{HostStands, NetworkStands}
use Rattle.wire.specs.Runs.{HostsGo}
use Rattle.host_calls.specs.Networks.{IsHost, NetworkState}
use Rattle.host_calls.proofs.AdaptersStay.{adapter-behind}
use Rattle.wire.proofs.CountedCalls.{can-behind, host-counts, host-ticks}
use Rattle.wire.proofs.Delivering.{Tells, delivers-runs}
use Rattle.wire.proofs.GroupsInForce.{Right, stay-right}

pub stands-with : (h : HostState) (world : World) → HostReady h world → HasNoForgottenWork h.driver world → IsRefilled h.driver
    → h.driver.staged ≡ [] → HasSetup h.driver.setup world.adapter → HasTable h.driver.groups world → CanAnswer world.adapter
    → (h.driver.missed < greatest_count → IsTrue h.driver.exact) → HostStands h world
stands-with h world ready work refilled offered set_up groups can exactly = record {
  ready = ready;
  work = work;
  refilled = refilled;
  offered = offered;
  set_up = set_up;
  groups = groups;
  can = can;
  one_owner = ready.ready.driver_is.one_owner;
  sends_at_most = (slots_have_frames (driver_of h world) world ready.ready).most;
  exact = record {
    reads = exactly;
    counts = λ small. record {
      exact = exactly (omega (arith, small));
      below_greatest = omega (arith, small);
      fits = omega (arith, small);
    };
  };
}

-- `HostStands` holds for a host after atomic steps, by what the host did in them. The setup and the group table are
-- preconditions.
pub stands-behind : (caller k : ℕ) (steps : List AtomicStep) (a b : List StationState) (h h' : HostState) (taken : List (List ℕ))
    (given : List Given) (accepted : List (List ℕ))
    → LeadsTo caller steps a b → HostStands h (world_at a k) → HostRuns k steps (host_did taken given accepted) (connected h a)
    (connected h' b)
    → HasSetup h'.driver.setup (world_at b k).adapter → HasTable h'.driver.groups (world_at b k) → HostStands h' (world_at b k)
stands-behind caller k steps a b h h' taken given accepted leads stands runs set_up groups =
    stands-with h' (world_at b k)
    (ready-behind h (world_at a k) h' (world_at b k) taken given accepted (past_at k steps) runs.flows)
    (runs.work stands.work) (runs.refilled stands.refilled) (runs.offered stands.offered) set_up groups
    (can-behind (events_at k steps) (world_at a k) (world_at b k) h.driver.layout h' stands.can (trail-of caller k steps a b leads)
    runs.accesses (ready-behind h (world_at a k) h' (world_at b k) taken given accepted (past_at k steps) runs.flows))
    (runs.flows.driver.misses.small stands.exact.reads)

-- The hosts of both states

same-host : (hosts : List HostState) (k : ℕ) (h h' : HostState) → slice_get hosts k ≡ Some h → slice_get hosts k ≡ Some h' → h' ≡ h
same-host hosts k h h' one two = let e : Some h ≡ Some h' = sym one ∙ two in cc

pub caller-behind : (hosts : List HostState) (caller : ℕ) (h h' h'' : HostState) → slice_get hosts caller ≡ Some h
    → slice_get (slice_set hosts caller h') caller ≡ Some h'' → h'' ≡ h'
caller-behind hosts caller h h' h'' is new =
    let set = slice_get-set_same hosts caller h' (slice_get_within hosts caller h is) in
    let e : Some h' ≡ Some h'' = sym set ∙ new in cc

pub other-behind : (hosts : List HostState) (caller k : ℕ) (h h' h'' : HostState) → k ≢ caller → slice_get hosts k ≡ Some h
    → slice_get (slice_set hosts caller h') k ≡ Some h'' → h'' ≡ h
other-behind hosts caller k h h' h'' other is new =
    let set = slice_get-set_other hosts caller k h' other in
    let e : Some h ≡ Some h'' = sym is ∙ (sym set ∙ new) in cc

-- A call of one host, for all hosts

-- what host k does: the calling host does what the call states, and any other host makes no access
pub each-runs : (caller k : ℕ) (steps : List AtomicStep) (a b : List StationState) (hosts : List HostState) (h h' was is : HostState)
    (taken : List (List ℕ)) (given : List Given) (accepted : List (List ℕ))
    → LeadsTo caller steps a b → slice_get hosts caller ≡ Some h
    → HostRuns caller steps (host_did taken given accepted) (connected h a) (connected h' b)
    → slice_get hosts k ≡ Some was → slice_get (slice_set hosts caller h') k ≡ Some is → HostReady was (world_at a k)
    → HostRuns k steps (host_did (of_host k caller taken) (of_host k caller given) (of_host k caller accepted)) (connected was a)
    (connected is b)
each-runs caller k steps a b hosts h h' was is taken given accepted leads there runs old new ready =
    elim (eqb_tells k caller) [
      | inl same ↦
          let before : was ≡ h = same-host hosts caller h was there (subst (λ (n : ℕ). slice_get hosts n ≡ Some was) same.1 old) in
          let behind : is ≡ h' = caller-behind hosts caller h h' is there
          (subst (λ (n : ℕ). slice_get (slice_set hosts caller h') n ≡ Some is) same.1 new) in
          subst (λ (here : Bool). HostRuns k steps
          (host_did (if here then taken else []) (if here then given else []) (if here then accepted else [])) (connected was a)
          (connected is b)) (sym same.0)
          (subst (λ (n : ℕ). HostRuns n steps (host_did taken given accepted) (connected was a) (connected is b)) (sym same.1)
          (subst (λ (w : HostState). HostRuns caller steps (host_did taken given accepted) (connected w a) (connected is b)) (sym before)
          (subst (λ (w : HostState). HostRuns caller steps (host_did taken given accepted) (connected h a) (connected w b)) (sym behind)
          runs)))
      | inr differ ↦
          let stays : is ≡ was = other-behind hosts caller k was h' is differ.1 old new in
          subst (λ (here : Bool). HostRuns k steps
          (host_did (if here then taken else []) (if here then given else []) (if here then accepted else [])) (connected was a)
          (connected is b)) (sym differ.0)
          (subst (λ (w : HostState). HostRuns k steps (host_did [] [] []) (connected was a) (connected w b)) (sym stays)
          (others-run caller k steps a b was differ.1 leads ready))
    ]

-- `Right` holds for host k: for the calling host as stated, and for any other host because it makes no access
pub each-right : (caller k : ℕ) (steps : List AtomicStep) (happened : List Happening) (a b : List StationState) (hosts : List HostState)
    (h h' was is : HostState)
    → LeadsTo caller steps a b → slice_get hosts caller ≡ Some h → Right caller happened a b h h'
    → (k ≢ caller → marks k happened ≡ marks k (happened_in steps))
    → slice_get hosts k ≡ Some was → slice_get (slice_set hosts caller h') k ≡ Some is → HostStands was (world_at a k)
    → Right k happened a b was is
each-right caller k steps happened a b hosts h h' was is leads there right others old new stands =
    elim (eqb_tells k caller) [
      | inl same ↦
          let before : was ≡ h = same-host hosts caller h was there (subst (λ (n : ℕ). slice_get hosts n ≡ Some was) same.1 old) in
          let behind : is ≡ h' = caller-behind hosts caller h h' is there
          (subst (λ (n : ℕ). slice_get (slice_set hosts caller h') n ≡ Some is) same.1 new) in
          subst (λ (n : ℕ). Right n happened a b was is) (sym same.1)
          (subst (λ (w : HostState). Right caller happened a b w is) (sym before)
          (subst (λ (w : HostState). Right caller happened a b h w) (sym behind) right))
      | inr differ ↦
          let stays : is ≡ was = other-behind hosts caller k was h' is differ.1 old new in
          stay-right caller k steps happened a b was is leads stands
          (stay-alone k steps (connected was a) (connected is b) stays (none-elsewhere caller k steps a b differ.1 leads)) (others differ.1)
    ]

-- `HostsGo`, by what each host does, by `Right` and by `Tells`.
pub hosts-go : (caller : ℕ) (happened : List Happening) (steps : List AtomicStep) (old new : NetworkState)
    (taken : ℕ → List (List ℕ)) (given : ℕ → List Given) (accepted : ℕ → List (List ℕ))
    → NetworkStands old → LeadsTo caller steps old.stations new.stations → length new.hosts ≡ length old.hosts
    → ((k : ℕ) (was is : HostState) → IsHost old k was → IsHost new k is
    → HostRuns k steps (host_did (taken k) (given k) (accepted k)) (connected was old.stations) (connected is new.stations))
    → ((k : ℕ) (was is : HostState) → IsHost old k was → IsHost new k is → Right k happened old.stations new.stations was is)
    → ((k : ℕ) → Tells k happened steps (wire_at old.stations) (given k) (accepted k))
    → HostsGo caller happened steps old new
hosts-go caller happened steps old new taken given accepted stands leads same runs rights tells = record {
  leads = leads;
  hosts = same;
  delivers = λ k was is there here.
      delivers-runs caller k steps happened old.stations new.stations was is (taken k) (given k) (accepted k) leads
      (rights k was is there here) (runs k was is there here) (tells k);
  ticks = record {
    there = λ k was there.
        let some = slice_get-some new.hosts k (let below = slice_get_within old.hosts k was there in omega (arith, below, same)) in
        let run = runs k was some.0 there some.1 in
        let behind = ready-behind was (world_at old.stations k) some.0 (world_at new.stations k) (taken k) (given k) (accepted k)
        (past_at k steps) run.flows in
        host-ticks caller k steps old.stations new.stations some.0 was.driver.layout leads run.accesses behind;
    absent = λ k past.
        absent-nothing caller k steps old.stations new.stations leads
        (slice_get_past old.stations k (let length_same = stands.same in omega (arith, past, length_same)));
    counts = λ k was there.
        let some = slice_get-some new.hosts k (let below = slice_get_within old.hosts k was there in omega (arith, below, same)) in
        host-counts caller k steps old.stations new.stations was.driver.layout leads (runs k was some.0 there some.1).accesses;
  };
  stands = record {
    same = length-stays caller steps old.stations new.stations leads ∙ stands.same ∙ sym same;
    each = λ k is here.
        let some = slice_get-some old.hosts k (let below = slice_get_within new.hosts k is here in omega (arith, below, same)) in
        stands-behind caller k steps old.stations new.stations some.0 is (taken k) (given k) (accepted k) leads
        (stands.each k some.0 some.1) (runs k some.0 is some.1 here) (rights k some.0 is some.1 here).set_up
        (rights k some.0 is some.1 here).table;
    adapters = λ k is here.
        let some = slice_get-some old.hosts k (let below = slice_get_within new.hosts k is here in omega (arith, below, same)) in
        adapter-behind (events_at k steps) (world_at old.stations k) (world_at new.stations k)
        (trail-of caller k steps old.stations new.stations leads) (stands.adapters k some.0 some.1);
  };
}
