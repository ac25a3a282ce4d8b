-- `HostsGo` for a reset of one host.
use Rattle.std.proofs.Common.{◌≡◌, ◌≢◌, [], ℕ, List, Some, inl, inr, length, refl, slice_get, slice_set, sym, ap, subst, ◌∙◌, arith}
use Rattle.std.proofs.lemmas.Bool.Decides.{eqb_tells}
use Rattle.std.proofs.lemmas.List.{length-set}
use Rattle.std.proofs.lemmas.Option.{slice_get_past, slice_get_within}
use Rattle.circular_buffer.proofs.Places.{slice_get-some}
use Rattle.stations.specs.AtomicSteps.{AtomicStep}
use Rattle.stations.specs.Stations.{StationState, wire_at, world_at}
use Rattle.stations.proofs.HostTrails.{trail-of}
use Rattle.stations.proofs.Lengths.{length-stays}
use Rattle.stations.specs.AtomicRuns.{LeadsTo, events_at, past_at}
use Rattle.bring_up.specs.ConfiguredAdapters.{HasSetup}
use Rattle.adapter.specs.DriverState.{DriverSetup, DriverState}
use Rattle.bring_up.specs.Groups.{HasTable}
use Rattle.packet_socket.specs.HostCalls.{host_did}
use Rattle.packet_socket.specs.HostState.{HostState}
use Rattle.host_calls.proofs.Ticks.{absent-nothing}
use Rattle.host_calls.specs.Fates.{mark_by, marks}
use Rattle.host_calls.specs.Happenings.{Happening, happened_in}
use Rattle.host_calls.specs.Reception.{ReceivesRightly}
use Rattle.host_calls.proofs.AdaptersStay.{adapter-behind}
use Rattle.host_calls.proofs.Calling.{others-run, ready-behind}
use Rattle.host_calls.proofs.GroupsKept.{stay-alone}
use Rattle.host_calls.proofs.HostTrails.{none-elsewhere}
use Rattle.host_calls.specs.CallsOfHosts.{HostRuns}
use Rattle.host_calls.specs.ConnectedHosts.{connected}
use Rattle.host_calls.specs.Networks.{IsHost, NetworkState}
use Rattle.host_calls.specs.ResetsInSteps.{GivesUp, ResetsInSteps}
use Rattle.wire.specs.Equations.{MeetsEquations, HostStands, NetworkStands}
use Rattle.wire.specs.Runs.{HostsGo, ResetAnswer}
use Rattle.wire.proofs.Calls.{of-others}
use Rattle.wire.proofs.CountedCalls.{host-counts, host-ticks}
use Rattle.wire.proofs.Delivering.{Tells, delivers-runs}
use Rattle.wire.proofs.GroupsInForce.{Right, stay-right}
use Rattle.wire.proofs.ResetLists.{reset-delivers, reset-list, reset-tells}
use Rattle.wire.proofs.ResetTicks.{reset-can, reset-counts, reset-ticks}
use Rattle.wire.proofs.ResetTold.{reset_said}
use Rattle.wire.proofs.Standing.{caller-behind, other-behind, stands-behind, stands-with}

-- What is known of a reset of host k: its steps, the frames that were lost, and that the fates are right.
pub record ResetKnown (k : ℕ) (answer : ResetAnswer) (steps : List AtomicStep) (h h' : HostState) (a b : List StationState) : Type 0 where
  pub leads : LeadsTo k steps a b
  pub resets : ResetsInSteps k steps (connected h a) (connected h' b)
  pub gives : GivesUp answer.sending answer.holding k h.driver.oldest_receive resets.parts (world_at a k) (world_at resets.last k)
  pub right : ReceivesRightly h.driver.groups (world_at a k).adapter (marks k (reset_said k answer resets.parts)) h'.driver.groups
      (world_at b k).adapter

-- What is known of another host n: it makes no access, its fates are right, and its lists agree with the steps.
record Elsewhere (n : ℕ) (happened : List Happening) (steps : List AtomicStep) (was : HostState) (a b : List StationState) : Type 0 where
  runs : HostRuns n steps (host_did [] [] []) (connected was a) (connected was b)
  right : Right n happened a b was was
  tells : Tells n happened steps (wire_at a) [] []

elsewhere : (k n : ℕ) (answer : ResetAnswer) (steps : List AtomicStep) (h h' was : HostState) (a b : List StationState) → n ≢ k
    → (known : ResetKnown k answer steps h h' a b) → HostStands was (world_at a n)
    → Elsewhere n (reset_said k answer known.resets.parts) steps was a b
elsewhere k n answer steps h h' was a b other known stands =
    let setup = h.driver.setup in
    let parts = known.resets.parts in
    let happened = reset_said k answer parts in
    let marks_are : marks n happened ≡ marks n (happened_in steps) =
    reset-list (mark_by n) k answer setup parts (of-others n k _ other) (of-others n k _ other) (of-others n k _ other)
    ∙ ap (λ (list : List AtomicStep). marks n (happened_in list)) (sym known.resets.split) in
    record {
      runs = others-run k n steps a b was other known.leads stands.ready;
      right = stay-right k n steps happened a b was was known.leads stands
          (stay-alone n steps (connected was a) (connected was b) refl (none-elsewhere k n steps a b other known.leads)) marks_are;
      tells = subst (λ (list : List AtomicStep). Tells n happened list (wire_at a) [] []) (sym known.resets.split)
          (reset-tells n k answer setup parts (wire_at a) (of-others n k answer.sending other) (of-others n k answer.holding other));
    }

reset-stands : (k : ℕ) (answer : ResetAnswer) (steps : List AtomicStep) (h h' : HostState) (a b : List StationState)
    → ResetKnown k answer steps h h' a b → HostStands h (world_at a k) → HostStands h' (world_at b k)
reset-stands k answer steps h h' a b known stands =
    let resets = known.resets in
    let driver = resets.again.driver in
    let setup : h'.driver.setup ≡ h.driver.setup = ap (λ (d : DriverState). d.setup) driver in
    let groups : h'.driver.groups ≡ h.driver.groups = ap (λ (d : DriverState). d.groups) driver in
    stands-with h' (world_at b k) resets.restarts.ready resets.restarts.work resets.again.refilled
    (ap (λ (d : DriverState). d.staged) driver)
    (subst (λ (s : DriverSetup). HasSetup s (world_at b k).adapter) (sym setup) resets.keeps.set_up)
    (subst (λ (list : List (List ℕ)). HasTable list (world_at b k)) (sym groups) resets.keeps.groups)
    (reset-can k steps (connected h a) (connected h' b) resets) (resets.keeps.sums.small stands.exact.reads)

pub reset-goes : (k : ℕ) (answer : ResetAnswer) (steps : List AtomicStep) (h h' : HostState) (old : NetworkState)
    (stations : List StationState) → NetworkStands old → IsHost old k h
    → (known : ResetKnown k answer steps h h' old.stations stations)
    → HostsGo k (reset_said k answer known.resets.parts) steps old (record { hosts = slice_set old.hosts k h'; stations = stations })
reset-goes k answer steps h h' old stations stands there known =
    let a = old.stations in
    let happened = reset_said k answer known.resets.parts in
    let new : NetworkState = record { hosts = slice_set old.hosts k h'; stations = stations } in
    let count : length new.hosts ≡ length old.hosts = length-set old.hosts k h' in
    let own : (was : HostState) → slice_get old.hosts k ≡ Some was → was ≡ h = λ was first.
    let e : Some h ≡ Some was = sym there ∙ first in cc in
    record {
      leads = known.leads;
      hosts = count;
      delivers = λ n was is first now.
          elim (eqb_tells n k) [
            | inl same ↦
                let was_is = own was (subst (λ (m : ℕ). slice_get old.hosts m ≡ Some was) same.1 first) in
                let is_is = caller-behind old.hosts k h h' is there
                (subst (λ (m : ℕ). slice_get (slice_set old.hosts k h') m ≡ Some is) same.1 now) in
                subst (λ (m : ℕ). MeetsEquations m happened a stations was is) (sym same.1)
                (subst (λ (w : HostState). MeetsEquations k happened a stations w is) (sym was_is)
                (subst (λ (w : HostState). MeetsEquations k happened a stations h w) (sym is_is)
                (reset-delivers k answer steps h h' a stations known.resets known.leads known.gives known.right)))
            | inr differ ↦
                let stays : is ≡ was = other-behind old.hosts k n was h' is differ.1 first now in
                let here = elsewhere k n answer steps h h' was a stations differ.1 known (stands.each n was first) in
                subst (λ (w : HostState). MeetsEquations n happened a stations was w) (sym stays)
                (delivers-runs k n steps happened a stations was was [] [] [] known.leads here.right here.runs here.tells)
          ];
      ticks = record {
        there = λ n was first.
            elim (eqb_tells n k) [
              | inl same ↦
                  subst (λ (m : ℕ). Rattle.host_calls.specs.StepOutcomes.AreAnswered m a steps) (sym same.1)
                  (reset-ticks k steps (connected h a) (connected h' stations) known.leads known.resets)
              | inr differ ↦
                  let here = elsewhere k n answer steps h h' was a stations differ.1 known (stands.each n was first) in
                  host-ticks k n steps a stations was was.driver.layout known.leads here.runs.accesses
                  (ready-behind was (world_at a n) was (world_at stations n) [] [] [] (past_at n steps) here.runs.flows)
            ];
        absent = λ n past.
            absent-nothing k n steps a stations known.leads
            (slice_get_past a n (let length_same = stands.same in omega (arith, past, length_same)));
        counts = λ n was first.
            elim (eqb_tells n k) [
              | inl same ↦
                  subst (λ (m : ℕ). Rattle.host_calls.specs.Counts.counts_of (world_at stations m).adapter
                  ≡ Rattle.host_calls.specs.StepOutcomes.counts_at a steps m) (sym same.1)
                  (reset-counts k steps (connected h a) (connected h' stations) known.leads known.resets)
              | inr differ ↦
                  host-counts k n steps a stations was.driver.layout known.leads
                  (elsewhere k n answer steps h h' was a stations differ.1 known (stands.each n was first)).runs.accesses
            ];
      };
      stands = record {
        same = length-stays k steps a stations known.leads ∙ stands.same ∙ sym count;
        each = λ n is now.
            let some = slice_get-some old.hosts n (let below = slice_get_within new.hosts n is now in omega (arith, below, count)) in
            let was = some.0 in
            elim (eqb_tells n k) [
              | inl same ↦
                  let is_is = caller-behind old.hosts k h h' is there
                  (subst (λ (m : ℕ). slice_get (slice_set old.hosts k h') m ≡ Some is) same.1 now) in
                  subst (λ (m : ℕ). HostStands is (world_at stations m)) (sym same.1)
                  (subst (λ (w : HostState). HostStands w (world_at stations k)) (sym is_is)
                  (reset-stands k answer steps h h' a stations known (stands.each k h there)))
              | inr differ ↦
                  let stays : is ≡ was = other-behind old.hosts k n was h' is differ.1 some.1 now in
                  let here = elsewhere k n answer steps h h' was a stations differ.1 known (stands.each n was some.1) in
                  subst (λ (w : HostState). HostStands w (world_at stations n)) (sym stays)
                  (stands-behind k n steps a stations was was [] [] [] known.leads (stands.each n was some.1) here.runs here.right.set_up
                  here.right.table)
            ];
        adapters = λ n is now.
            let some = slice_get-some old.hosts n (let below = slice_get_within new.hosts n is now in omega (arith, below, count)) in
            adapter-behind (events_at n steps) (world_at a n) (world_at stations n) (trail-of k n steps a stations known.leads)
            (stands.adapters n some.0 some.1);
      };
    }
