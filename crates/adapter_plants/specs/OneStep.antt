-- A tick that is played on the same stations has one outcome, and leads to the same stations.
use Rattle.std.proofs.Common.{◌≡◌, ◌∷◌, [], ℕ, suc, List, Bool, true, false, Option, Some, None, refl, sym, ap, subst, ◌∙◌}
use Rattle.std.specs.Prelude.{◌↔◌, IsTrue, slice_get}
use Rattle.adapter.specs.Outcomes.{FrameOutcome}
use Rattle.adapter.specs.State.{AdapterState}
use Rattle.adapter.specs.Steps.{Answers}
use Rattle.adapter.specs.model_types.outcome.Outcome.TheVariants.{Delivered}
use Rattle.adapter.specs.model_types.step.StepKind.{StepKind}
use Rattle.adapter.specs.model_types.step.StepKind.TheVariants.{EepromTick, PhyTick, RxData, RxDone, TxPut, TxTake}
use Rattle.adapter_plants.specs.OneAnswer.{answers_are_one}
use Rattle.adapter_plants.specs.OneFate.{one_fate}
use Rattle.adapter.specs.bus_types.event.Event.{Event}
use Rattle.adapter.specs.bus_types.event.Event.TheVariants.{Accesses, Arrives, Steps}
use Rattle.rx_engine.specs.declared.arrival.Fate.{Fate}
use Rattle.stations.specs.AtomicSteps.{AtomicStep, At, CanHappen, FindsNothing, Idles}
use Rattle.stations.specs.AtomicSteps.{IsNoAccess, OccursAt, PlaysTick, after_atomic, step_outcome}
use Rattle.stations.specs.AtomicSteps.{outcome_of_event, tick_of, tick_of_event}
use Rattle.stations.specs.Stations.{StationState, WireHasRoom, all_after, at_each, backlog_at, each_after, stations_after, wire_of}
use Rattle.stations.specs.Stations.{world_at}
use Rattle.stations.specs.declared.tick.Tick.{Tick}

same_free : (a b : Bool) (P : Type 0) → IsTrue a ↔ P → IsTrue b ↔ P → a ≡ b
same_free true true P p q = refl
same_free true false P p q = absurd (cc (q.1 (p.0 refl)))
same_free false true P p q = absurd (cc (p.1 (q.0 refl)))
same_free false false P p q = refl

-- The outcome of a step depends on whether the wire is free only if the step is TxPut.
step_one : (kind : StepKind) (free other : Bool) (memory : List ℕ) (state : AdapterState) (a b : FrameOutcome)
    → (kind ≡ TxPut → free ≡ other) → Answers kind free memory state a → Answers kind other memory state b → a ≡ b
step_one TxTake free other memory state a b same p q = answers_are_one TxTake free memory state a b p q
step_one TxPut free other memory state a b same p q =
    answers_are_one TxPut free memory state a b p
    (subst (λ (x : Bool). Answers TxPut x memory state b) (sym (same refl)) q)
step_one RxData free other memory state a b same p q = answers_are_one RxData free memory state a b p q
step_one RxDone free other memory state a b same p q = answers_are_one RxDone free memory state a b p q
step_one EepromTick free other memory state a b same p q = answers_are_one EepromTick free memory state a b p q
step_one PhyTick free other memory state a b same p q = answers_are_one PhyTick free memory state a b p q

each_same : (change other : ℕ → StationState → StationState) → ((k : ℕ) (station : StationState) → change k station ≡ other k station)
    → (k : ℕ) (stations : List StationState) → at_each change k stations ≡ at_each other k stations
each_same change other same k [] = refl
each_same change other same k (station ∷ later) =
    ap (λ (x : StationState). x ∷ at_each change (suc k) later) (same k station)
    ∙ ap (λ (xs : List StationState). other k station ∷ xs) (each_same change other same (suc k) later)

found_after : (found : Option StationState) (host : ℕ) (kind : StepKind) (free other : Bool) (answer : FrameOutcome)
    (stations : List StationState) → all_after found host (Steps kind free answer) stations
    ≡ all_after found host (Steps kind other answer) stations
found_after None host kind free other answer stations = refl
found_after (Some station) host kind free other answer stations =
    each_same (each_after host station.wire (Steps kind free answer)) (each_after host station.wire (Steps kind other answer))
    (λ k here. refl) 0 stations

is_elsewhere : (found : Option StationState) (wire : ℕ) → found ≡ None → wire_of found ≡ Some wire → ⊥
is_elsewhere None wire none some = absurd (cc)
is_elsewhere (Some station) wire none some = absurd (cc)

none_waits : (waiting : List (List ℕ)) (frame : List ℕ) → waiting ≡ [] → slice_get waiting 0 ≡ Some frame → ⊥
none_waits [] frame none some = absurd (cc)
none_waits (first ∷ later) frame none some = absurd (cc)

-- The two outcomes are equal, and so are the two lists of stations.
pub record AreOne (outcome other : FrameOutcome) (stations others : List StationState) : Type 0 where
  pub outcomes : outcome ≡ other
  pub states : stations ≡ others

steps_one : (host : ℕ) (kind : StepKind) (free other : Bool) (a b : FrameOutcome) (stations : List StationState)
    → OccursAt host (Steps kind free a) stations → OccursAt host (Steps kind other b) stations
    → AreOne a b (stations_after host (Steps kind free a) stations) (stations_after host (Steps kind other b) stations)
steps_one host kind free other a b stations p q =
    let wires : p.wire ≡ q.wire = cc (p.on_wire, q.on_wire) in
    let same = step_one kind free other (world_at stations host).memory (world_at stations host).adapter a b
    (λ put. same_free free other (WireHasRoom stations host p.wire) (p.suits_wire put)
    (subst (λ (wire : ℕ). IsTrue other ↔ WireHasRoom stations host wire) (sym wires) (q.suits_wire put)))
    p.occurs.1 q.occurs.1 in
    record {
      outcomes = same;
      states = found_after (slice_get stations host) host kind free other a stations
          ∙ ap (λ (x : FrameOutcome). stations_after host (Steps kind other x) stations) same;
    }

arrivals_one : (host : ℕ) (frame another : List ℕ) (fate other : Fate) (stations : List StationState)
    → OccursAt host (Arrives frame fate) stations → OccursAt host (Arrives another other) stations
    → AreOne (Delivered frame fate) (Delivered another other) (stations_after host (Arrives frame fate) stations)
    (stations_after host (Arrives another other) stations)
arrivals_one host frame another fate other stations p q =
    let frames : another ≡ frame = cc (p.suits_wire, q.suits_wire) in
    let again = subst (λ (x : List ℕ). OccursAt host (Arrives x other) stations) frames q in
    let fates = one_fate (world_at stations host).adapter frame fate other p.occurs.1 again.occurs.1 in
    record {
      outcomes = ap (λ (x : Fate). Delivered frame x) fates ∙ ap (λ (x : List ℕ). Delivered x other) (sym frames);
      states = ap (λ (x : Fate). stations_after host (Arrives frame x) stations) fates
          ∙ ap (λ (x : List ℕ). stations_after host (Arrives x other) stations) (sym frames);
    }

events_one : (host : ℕ) (a b : Event) (stations : List StationState) → IsNoAccess (At host a) → IsNoAccess (At host b)
    → tick_of_event host a ≡ tick_of_event host b → OccursAt host a stations → OccursAt host b stations
    → AreOne (outcome_of_event a) (outcome_of_event b) (stations_after host a stations) (stations_after host b stations)
events_one host (Steps kind free a) (Steps other_kind other b) stations x y same p q =
    let kinds : other_kind ≡ kind = cc (same) in
    subst (λ (j : StepKind). AreOne a b (stations_after host (Steps kind free a) stations) (stations_after host (Steps j other b) stations))
    (sym kinds)
    (steps_one host kind free other a b stations p (subst (λ (j : StepKind). OccursAt host (Steps j other b) stations) kinds q))
events_one host (Steps kind free a) (Arrives frame fate) stations x y same p q = absurd (cc (same))
events_one host (Steps kind free a) (Accesses access) stations x y same p q = absurd y
events_one host (Arrives frame fate) (Steps kind free a) stations x y same p q = absurd (cc (same))
events_one host (Arrives frame fate) (Arrives another other) stations x y same p q =
    arrivals_one host frame another fate other stations p q
events_one host (Arrives frame fate) (Accesses access) stations x y same p q = absurd y
events_one host (Accesses access) b stations x y same p q = absurd x

host_one : (host other : ℕ) (a b : Event) → IsNoAccess (At host a) → IsNoAccess (At other b)
    → tick_of_event host a ≡ tick_of_event other b → other ≡ host
host_one host other (Steps kind free a) (Steps other_kind other_free b) x y same = cc (same)
host_one host other (Steps kind free a) (Arrives frame fate) x y same = absurd (cc (same))
host_one host other (Steps kind free a) (Accesses access) x y same = absurd y
host_one host other (Arrives frame fate) (Steps kind free a) x y same = absurd (cc (same))
host_one host other (Arrives frame fate) (Arrives another another_fate) x y same = cc (same)
host_one host other (Arrives frame fate) (Accesses access) x y same = absurd y
host_one host other (Accesses access) b x y same = absurd x

-- A tick that finds nothing to do isn't the tick of an event that occurs.
finds_something : (host : ℕ) (event : Event) (stations : List StationState) → IsNoAccess (At host event)
    → OccursAt host event stations → FindsNothing (tick_of_event host event) stations → ⊥
finds_something host (Steps kind free a) stations x p none = is_elsewhere (slice_get stations host) p.wire none p.on_wire
finds_something host (Arrives frame fate) stations x p none = none_waits (backlog_at stations host) frame none p.suits_wire
finds_something host (Accesses access) stations x p none = x

-- Two atomic steps of the same tick that can happen from the same stations have the same outcome, and lead to the same stations.
pub atoms_one : (a b : AtomicStep) (stations : List StationState) → IsNoAccess a → IsNoAccess b → tick_of a ≡ tick_of b
    → CanHappen a stations → CanHappen b stations
    → AreOne (step_outcome a) (step_outcome b) (after_atomic a stations) (after_atomic b stations)
atoms_one (At host a) (At other b) stations x y same p q =
    let hosts = host_one host other a b x y same in
    let y = subst (λ (h : ℕ). IsNoAccess (At h b)) hosts y in
    let same = subst (λ (h : ℕ). tick_of_event host a ≡ tick_of_event h b) hosts same in
    let q = subst (λ (h : ℕ). OccursAt h b stations) hosts q in
    subst (λ (h : ℕ). AreOne (outcome_of_event a) (outcome_of_event b) (stations_after host a stations) (stations_after h b stations))
    (sym hosts) (events_one host a b stations x y same p q)
atoms_one (At host a) (Idles tick) stations x y same p q =
    absurd (finds_something host a stations x p (subst (λ (t : Tick). FindsNothing t stations) (sym same) q))
atoms_one (Idles tick) (At host b) stations x y same p q =
    absurd (finds_something host b stations y q (subst (λ (t : Tick). FindsNothing t stations) same p))
atoms_one (Idles tick) (Idles other) stations x y same p q = record { outcomes = refl; states = refl }

-- A tick that is played from the same stations has one outcome, and leads to the same stations.
pub plays_one : (old new other : List StationState) (tick : Tick) (outcome another : FrameOutcome) → PlaysTick old tick outcome new
    → PlaysTick old tick another other → AreOne outcome another new other
plays_one old new other tick outcome another p q =
    let same = atoms_one p.step q.step old p.no_access q.no_access (p.tick_is ∙ sym q.tick_is) p.happens q.happens in
    record {
      outcomes = sym p.outcome_is ∙ same.outcomes ∙ q.outcome_is;
      states = p.leaves ∙ same.states ∙ sym q.leaves;
    }
