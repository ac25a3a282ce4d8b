-- A call over a lent bus followed by the remaining ticks, and what every other host does during the call.
use Rattle.std.proofs.Common.{◌≡◌, ◌≢◌, ◌++◌, [], ℕ, true, List, refl, sym, ap, subst, ◌∙◌}
use Rattle.std.specs.List.{All}
use Rattle.std.proofs.lemmas.List.{append-nil}
use Rattle.std.proofs.lemmas.List.Elements.{All-append}
use Rattle.adapter.specs.World.{World}
use Rattle.dma_memory.specs.Layout.{Counts}
use Rattle.adapter.proofs.Lists.{all-none}
use Rattle.adapter.specs.Law.{Happens}
use Rattle.adapter.specs.Pasts.{Past}
use Rattle.adapter.specs.bus_types.event.Access.{Access}
use Rattle.stations.specs.AtomicSteps.{AtomicStep}
use Rattle.stations.specs.Stations.{StationState, world_at}
use Rattle.stations.specs.AtomicRunLaws.{leads_join, past_join}
use Rattle.stations.specs.AtomicRuns.{LeadsTo, past_at}
use Rattle.stations.specs.LentBuses.{Finished, HappenedLent, world_here}
use Rattle.stations.specs.ToldTicks.{ComposesTold}
use Rattle.stations.specs.declared.lent_bus.LentBus.{LentBus}
use Rattle.stations.specs.declared.observer.Observer.{Ghosts as OfObserver}
use Rattle.adapter.proofs.Intervals.{flows_join, work_kept}
use Rattle.adapter.specs.Calls.{FlowsTo, HasNoForgottenWork, IsRefilled}
use Rattle.packet_socket.proofs.Intervals.{host-happens, host-join}
use Rattle.packet_socket.specs.HostCalls.{Given, HostDid, HostFlowsTo, HostGoesTo, HostReady, host_did, driver_of, in_world}
use Rattle.packet_socket.specs.HostState.{HostState}
use Rattle.host_calls.proofs.Laws.{lent-calls, outcomes-tell}
use Rattle.host_calls.specs.TickNumbers.{numbers}
use Rattle.host_calls.specs.CallsOfHosts.{CallRuns, HostRuns}
use Rattle.packet_socket.specs.HostActs.{IsOfHost, OnlyLastWrites}
use Rattle.host_calls.proofs.HostTrails.{happens-alone, happens-elsewhere, none-alone, none-elsewhere}
use Rattle.host_calls.specs.ConnectedHosts.{PlayedCall, connected, played_call}

pub work-held : (h : HostState) (a world : World) → HasNoForgottenWork h.driver world → HasNoForgottenWork (driver_of h a) world
work-held h a world work = record { enabled = work.enabled; asked = work.asked }

pub work-unheld : (h : HostState) (a world : World) → HasNoForgottenWork (driver_of h a) world → HasNoForgottenWork h.driver world
work-unheld h a world work = record { enabled = work.enabled; asked = work.asked }

pub flows-of : (h : HostState) (a : World) (h' : HostState) (b : World) (taken : List (List ℕ)) (given : List Given)
    (accepted : List (List ℕ)) (past : Past)
    → HostGoesTo true (in_world h a) (in_world h' b) (host_did taken given accepted) past
    → HostFlowsTo true (in_world h a) (in_world h' b) (host_did taken given accepted) past
flows-of h a h' b taken given accepted past goes = record { sizes = goes.sizes; driver = goes.driver.flows; accounts = goes.accounts }

pub ready-behind : (h : HostState) (a : World) (h' : HostState) (b : World) (taken : List (List ℕ)) (given : List Given)
    (accepted : List (List ℕ)) (past : Past)
    → HostFlowsTo true (in_world h a) (in_world h' b) (host_did taken given accepted) past → HostReady h' b
ready-behind h a h' b taken given accepted past flows = record { sizes = flows.sizes; ready = flows.driver.ready }

pub work-goes : (h : HostState) (a : World) (h' : HostState) (b : World) (taken : List (List ℕ)) (given : List Given)
    (accepted : List (List ℕ)) (past : Past)
    → HostGoesTo true (in_world h a) (in_world h' b) (host_did taken given accepted) past
    → HasNoForgottenWork h.driver a → HasNoForgottenWork h'.driver b
work-goes h a h' b taken given accepted past goes work =
    work-unheld h' b b (work_kept (driver_of h a) (driver_of h' b) a b taken accepted past goes.driver (work-held h a a work))

pub runs-alone : (k : ℕ) (steps : List AtomicStep) (a b : List StationState) (h : HostState) → HostReady h (world_at a k)
    → Happens (world_at a k) (world_at b k) (past_at k steps) → (past_at k steps).accesses ≡ []
    → HostRuns k steps (host_did [] [] []) (connected h a) (connected h b)
runs-alone k steps a b h ready happens none =
    let goes = host-happens h (world_at a k) (world_at b k) (past_at k steps) ready happens in
    record {
      flows = flows-of h (world_at a k) h (world_at b k) [] [] [] (past_at k steps) goes;
      accesses = subst (λ (accesses : List Access). All (IsOfHost h.driver.layout) accesses) (sym none)
          (all-none (IsOfHost h.driver.layout));
      work = work-goes h (world_at a k) h (world_at b k) [] [] [] (past_at k steps) goes;
      refilled = λ refilled. refilled;
      offered = λ offered. offered;
    }

-- What a host does in two consecutive intervals: the lists of frames are joined.
pub runs-join : (k : ℕ) (first later : List AtomicStep) (a b c : List StationState) (h1 h2 h3 : HostState) (t1 t2 : List (List ℕ))
    (given more : List Given) (s1 s2 : List (List ℕ))
    → h2.driver.layout ≡ h1.driver.layout
    → HostRuns k first (host_did t1 given s1) (connected h1 a) (connected h2 b)
    → HostRuns k later (host_did t2 more s2) (connected h2 b) (connected h3 c)
    → HostRuns k (first ++ later) (host_did (t1 ++ t2) (given ++ more) (s1 ++ s2)) (connected h1 a) (connected h3 c)
runs-join k first later a b c h1 h2 h3 t1 t2 given more s1 s2 counts one two = record {
  flows =
      subst (HostFlowsTo true (in_world h1 (world_at a k)) (in_world h3 (world_at c k)) (host_did (t1 ++ t2) (given ++ more) (s1 ++ s2)))
      (sym (past_join k first later))
      (host-join (FlowsTo true) (FlowsTo true) flows_join (in_world h1 (world_at a k)) (in_world h2 (world_at b k))
      (in_world h3 (world_at c k)) (host_did t1 given s1) (host_did t2 more s2) (past_at k first) (past_at k later) one.flows two.flows);
  accesses =
      subst (λ (past : Past). All (IsOfHost h1.driver.layout) past.accesses) (sym (past_join k first later))
      (All-append (IsOfHost h1.driver.layout) (past_at k first).accesses (past_at k later).accesses one.accesses
      (subst (λ (own : Counts). All (IsOfHost own) (past_at k later).accesses) counts two.accesses));
  work = λ work. two.work (one.work work);
  refilled = λ refilled. two.refilled (one.refilled refilled);
  offered = λ offered. two.offered (one.offered offered);
}

pub whole-accesses : (k : ℕ) (first last : List AtomicStep) → (past_at k last).accesses ≡ []
    → (past_at k (first ++ last)).accesses ≡ (past_at k first).accesses
whole-accesses k first last none =
    ap (λ (past : Past). past.accesses) (past_join k first last)
    ∙ ap (λ (accesses : List Access). (past_at k first).accesses ++ accesses) none
    ∙ append-nil (past_at k first).accesses

-- the call over a lent bus that begins with the bus `a` and ends, after the remaining ticks, with the bus `b`
abbrev pub lent_call : {O : Type 0} {g : OfObserver O} (a b : LentBus O g) → PlayedCall
lent_call {O} {g} a b = played_call a.host a.ticks.now (g.heard a.observer.now b.observer.now) b.accesses

-- `CallRuns` holds for a call over a lent bus followed by the remaining ticks. Its steps are those of the call, followed by those of the
-- remaining ticks.
pub call-runs_by : {O : Type 0} {g : OfObserver O} → ComposesTold g.heard
    → (a m b : LentBus O g) (past : Past) (h h' : HostState) (taken : List (List ℕ)) (given : List Given)
    (accepted : List (List ℕ))
    → a.accesses ≡ 0 → (interval : HappenedLent a m past)
    → HostFlowsTo true (in_world h (world_here a)) (in_world h' (world_here m)) (host_did taken given accepted) past
    → All (IsOfHost h.driver.layout) past.accesses → OnlyLastWrites past.accesses
    → (HasNoForgottenWork h.driver (world_here a) → HasNoForgottenWork h'.driver (world_here m))
    → (IsRefilled h.driver → IsRefilled h'.driver)
    → (h.driver.staged ≡ [] → h'.driver.staged ≡ [])
    → (finished : Finished m b)
    → ((runs : CallRuns (lent_call a b) given accepted (connected h a.stations.now) (connected h' b.stations.now))
    × (runs.steps ≡ interval.steps ++ finished.plays.steps) × (runs.taken ≡ taken))
call-runs_by composes a m b past h h' taken given accepted zero interval flows accesses writes work refilled offered finished =
    let first = interval.steps in
    let last = finished.plays.steps in
    let leads = leads_join a.host first last a.stations.now m.stations.now b.stations.now interval.leads (finished.plays.leads a.host) in
    let host = interval.lent.host in
    let call = lent-calls composes a m b past interval finished zero in
    let tells = outcomes-tell a.host a.ticks.now past.accesses first last a.stations.now m.stations.now b.stations.now call.plays in
    let here : HostRuns a.host first (host_did taken given accepted) (connected h a.stations.now) (connected h' m.stations.now) =
    subst (λ (w : World). (HostFlowsTo true (in_world h (world_here a)) (in_world h' w) (host_did taken given accepted) past)
    → (HasNoForgottenWork h.driver (world_here a) → HasNoForgottenWork h'.driver w)
    → HostRuns a.host first (host_did taken given accepted) (connected h a.stations.now) (connected h' m.stations.now))
    (ap (λ (k : ℕ). world_at m.stations.now k) (sym host))
    (λ f w. record {
      flows = subst (HostFlowsTo true (in_world h (world_here a)) (in_world h' (world_at m.stations.now a.host))
          (host_did taken given accepted)) interval.past_is f;
      accesses = subst (λ (p : Past). All (IsOfHost h.driver.layout) p.accesses) interval.past_is accesses;
      work = w;
      refilled = refilled;
      offered = offered;
    }) flows work in
    let counts : h'.driver.layout ≡ h.driver.layout = flows.driver.layout in
    let same_accesses = sym (whole-accesses a.host first last (none-alone a.host last finished.plays.are)) in
    let ready = ready-behind h (world_at a.stations.now a.host) h' (world_at m.stations.now a.host) taken given accepted
    (past_at a.host first) here.flows in
    let behind = runs-alone a.host last m.stations.now b.stations.now h' ready
    (happens-alone a.host a.host last m.stations.now b.stations.now finished.plays.are (finished.plays.leads a.host))
    (none-alone a.host last finished.plays.are) in
    let whole = runs-join a.host first last a.stations.now m.stations.now b.stations.now h h' h' taken [] given [] accepted
    [] counts here behind in
    let Whole = λ (done : HostDid). HostRuns a.host (first ++ last) done (connected h a.stations.now) (connected h' b.stations.now) in (
      record {
        steps = first ++ last;
        of_call = record {
          leads = leads;
          played = tells.played;
          heard = call.heard;
          said = tells.said;
          numbered = sym tells.numbered ∙ ap (numbers a.ticks.now 0) (sym call.count);
          counted = call.count ∙ sym tells.counted;
        };
        taken = taken;
        runs =
            subst (λ (list : List (List ℕ)). Whole (host_did list given accepted))
            (append-nil taken)
            (subst (λ (list : List Given). Whole (host_did (taken ++ []) list accepted))
            (append-nil given)
            (subst (λ (list : List (List ℕ)). Whole (host_did (taken ++ []) (given ++ []) list)) (append-nil accepted) whole));
        last_writes =
            subst OnlyLastWrites same_accesses
            (subst (λ (p : Past). OnlyLastWrites p.accesses) interval.past_is writes);
      },
      refl,
      refl,
    )

pub others-run : (caller k : ℕ) (steps : List AtomicStep) (a b : List StationState) (h : HostState) → k ≢ caller
    → LeadsTo caller steps a b → HostReady h (world_at a k) → HostRuns k steps (host_did [] [] []) (connected h a) (connected h b)
others-run caller k steps a b h other leads ready =
    runs-alone k steps a b h ready (happens-elsewhere caller k steps a b other leads) (none-elsewhere caller k steps a b other leads)
