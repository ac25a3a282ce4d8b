-- The laws of outcomes: the outcome of each tick follows from the counts and the waiting frames at the start.
use Rattle.std.proofs.Common.{◌≡◌, ◌≢◌, ◌==◌, ◌++◌, ℕ, Bool, true, false, Option, Some, None, List, [], ◌∷◌, length, slice_get, inl, inr}
use Rattle.std.proofs.Common.{refl}
use Rattle.std.proofs.Common.{sym, ap, subst, ◌∙◌, append_assoc, arith, if◌then◌else◌}
use Rattle.std.specs.Prelude.{MatchBool}
use Rattle.std.specs.List.{All}
use Rattle.std.proofs.lemmas.Bool.Decides.{eqb_tells}
use Rattle.rx_engine.specs.declared.arrival.Fate.{Fate}
use Rattle.tx_engine.specs.Transmitter.{Queued}
use Rattle.adapter.specs.State.{AdapterState}
use Rattle.adapter.specs.Transmitting.{IsOldest, PutAnswers}
use Rattle.adapter.specs.model_types.step.StepKind.{StepKind}
use Rattle.adapter.specs.model_types.step.StepKind.TheVariants.{TxTake, TxPut, RxData, RxDone, EepromTick, PhyTick}
use Rattle.adapter.specs.Outcomes.{FrameOutcome}
use Rattle.adapter.specs.model_types.outcome.Outcome.TheVariants.{Delivered, Fault, Nothing, Put, WireFull}
use Rattle.adapter.proofs.Lists.{all-head, all-left, all-right}
use Rattle.adapter.proofs.TrailFaults.{faults_stay, running_engines_met_no_fault}
use Rattle.adapter.specs.Accesses.{IsNoReset}
use Rattle.adapter.specs.Pasts.{Past}
use Rattle.adapter.specs.TrailFaults.{EnginesRun, IsNoFault, StaysStopped}
use Rattle.adapter.specs.bus_types.event.Access.{Access}
use Rattle.adapter.specs.bus_types.event.Event.{Event}
use Rattle.adapter.specs.bus_types.event.Event.TheVariants.{Accesses, Arrives, Steps}
use Rattle.stations.specs.AtomicSteps.{At, AtomicStep, CanHappen, Idles, OccursAt, after_atomic, step_outcome, tick_of}
use Rattle.stations.specs.Stations.{StationState, wire_at, wire_of, world_at, world_of}
use Rattle.stations.specs.declared.tick.Tick.TheVariants.{Deliver, Go, Step}
use Rattle.stations.proofs.HostTrails.{trail-of}
use Rattle.stations.specs.AtomicRunLaws.{past_join}
use Rattle.stations.specs.AtomicRuns.{LeadsTo, events_at, past_at}
use Rattle.host_calls.proofs.AnsweringTicks.{data-answer, done-answer, eeprom-answer, phy-answer, take-answer}
use Rattle.host_calls.proofs.HostSteps.{trail-goes}
use Rattle.host_calls.proofs.RunningEngines.{NoFaultAt, none-fault, trail-runs}
use Rattle.host_calls.proofs.WaitingFrames.{full-by-counting, room-by-counting, run-waiting, run-wires}
use Rattle.host_calls.specs.CountedHosts.{IsCounted}
use Rattle.host_calls.specs.Counts.{HostCounts, counts_of}
use Rattle.host_calls.specs.AnswersLaws.{AbsentHostsAnswerNothing, CountsGoByOutcomes, FaultNeverComes, FaultNeverComesAroundReset}
use Rattle.host_calls.specs.AnswersLaws.{GoAnswersNothing, MeetsNoFault, OutcomesFollowFromCounts, WaitingFramesGoByOutcomes}
use Rattle.host_calls.specs.StepOutcomes.{IsTickOutcome, IsDelivery, IsStepOutcome, IsTickOf, OfEachTick, counts_at, stations_behind}
use Rattle.host_calls.specs.WaitingFrames.{waiting_at}

-- The steps before a step, this step, and the remaining steps

record Parts (caller : ℕ) (before later : List AtomicStep) (step : AtomicStep) (a b : List StationState) : Type 0 where
  leads : LeadsTo caller before a (stations_behind before a)
  happens : CanHappen step (stations_behind before a)
  rest : LeadsTo caller (step ∷ later) (stations_behind before a) b

parts : (caller : ℕ) (before later : List AtomicStep) (step : AtomicStep) (a b : List StationState)
    → LeadsTo caller (before ++ step ∷ later) a b → Parts caller before later step a b
parts caller [] later step a b leads = record { leads = refl; happens = leads.0; rest = leads }
parts caller (first ∷ before) later step a b leads =
    let behind = parts caller before later step (after_atomic first a) b leads.2 in
    record { leads = (leads.0, leads.1, behind.leads); happens = behind.happens; rest = behind.rest }

parts-of : (caller : ℕ) (steps before later : List AtomicStep) (step : AtomicStep) (a b : List StationState)
    → steps ≡ before ++ step ∷ later → LeadsTo caller steps a b → Parts caller before later step a b
parts-of caller steps before later step a b same leads =
    parts caller before later step a b (subst (λ (list : List AtomicStep). LeadsTo caller list a b) same leads)

accesses-of : (host : ℕ) (steps before later : List AtomicStep) → steps ≡ before ++ later
    → (past_at host steps).accesses ≡ (past_at host before).accesses ++ (past_at host later).accesses
accesses-of host steps before later same =
    ap (λ (list : List AtomicStep). (past_at host list).accesses) same
    ∙ ap (λ (past : Past). past.accesses) (past_join host before later)

-- Counts at the end

pub counts-go : CountsGoByOutcomes
counts-go caller host steps a b leads counted =
    trail-goes (events_at host steps) (world_at a host) (world_at b host) counted (trail-of caller host steps a b leads)

pub waiting-goes : WaitingFramesGoByOutcomes
waiting-goes caller host steps a b leads = run-waiting caller host steps a b leads

-- Faults

runs : (a b : Bool) → (a ≡ true → b ≡ true) → b ≡ false → a ≡ false
runs true b stays run = let stopped : b ≡ true = stays refl in let contrary : true ≡ false = sym stopped ∙ run in absurd (cc)
runs false b stays run = refl

engines-run : (a b : AdapterState) → StaysStopped a b → EnginesRun b → EnginesRun a
engines-run a b stays run = record {
  receiver = runs a.receiver.stopped b.receiver.stopped stays.receiver run.receiver;
  transmitter = runs a.transmitter.stopped b.transmitter.stopped stays.transmitter run.transmitter;
}

-- no access of this host in the steps resets its adapter
abbrev ResetNothing : (host : ℕ) → List AtomicStep → Type 0
ResetNothing host steps = All IsNoReset (past_at host steps).accesses

rest-resets : (host : ℕ) (steps before later : List AtomicStep) → steps ≡ before ++ later → ResetNothing host steps
    → ResetNothing host later
rest-resets host steps before later same none =
    all-right IsNoReset (past_at host before).accesses (past_at host later).accesses
    (subst (λ (accesses : List Access). All IsNoReset accesses) (accesses-of host steps before later same) none)

first-event : (host : ℕ) (event : Event) (later : List AtomicStep)
    → events_at host (At host event ∷ later) ≡ event ∷ events_at host later
first-event host event later = elim (eqb_tells host host) [
  | inl itself ↦ ap (λ (here : Bool). (if here then event ∷ [] else []) ++ events_at host later) itself.0
  | inr other ↦ absurd (other.1 refl)
]

no-fault : (caller host : ℕ) (event : Event) (later : List AtomicStep) (a b : List StationState)
    → LeadsTo caller (At host event ∷ later) a b → ResetNothing host (At host event ∷ later) → EnginesRun (world_at b host).adapter
    → IsNoFault event
no-fault caller host event later a b leads none run =
    let whole = running_engines_met_no_fault (events_at host (At host event ∷ later)) (world_at a host) (world_at b host) none
    (trail-of caller host (At host event ∷ later) a b leads) run in
    all-head IsNoFault event (events_at host later)
    (subst (λ (events : List Event). All IsNoFault events) (first-event host event later) whole)

run-before : (caller host : ℕ) (steps : List AtomicStep) (a b : List StationState) → LeadsTo caller steps a b → ResetNothing host steps
    → EnginesRun (world_at b host).adapter → EnginesRun (world_at a host).adapter
run-before caller host steps a b leads none run =
    engines-run (world_at a host).adapter (world_at b host).adapter
    (faults_stay (events_at host steps) (world_at a host) (world_at b host) none (trail-of caller host steps a b leads)) run

step-no-fault : (caller host : ℕ) (step : AtomicStep) (later : List AtomicStep) (a b : List StationState)
    → LeadsTo caller (step ∷ later) a b → ResetNothing host (step ∷ later) → EnginesRun (world_at b host).adapter
    → IsTickOf host (tick_of step) → step_outcome step ≢ Fault
step-no-fault caller host (At other (Steps kind wire_free answer)) later a b leads none run of_host =
    let here = λ (k : ℕ). LeadsTo caller (At k (Steps kind wire_free answer) ∷ later) a b in
    let resets = λ (k : ℕ). ResetNothing host (At k (Steps kind wire_free answer) ∷ later) in
    no-fault caller host (Steps kind wire_free answer) later a b (subst here of_host leads) (subst resets of_host none) run
step-no-fault caller host (At other (Arrives frame fate)) later a b leads none run of_host = λ is. absurd (cc)
step-no-fault caller host (At other (Accesses access)) later a b leads none run of_host = λ is. absurd (cc)
step-no-fault caller host (Idles tick) later a b leads none run of_host = λ is. absurd (cc)

pub fault-never-comes : FaultNeverComes
fault-never-comes caller host steps a b leads none run = record {
  run = run-before caller host steps a b leads none run;
  none = λ before later step same of_host.
      let at = parts-of caller steps before later step a b same leads in
      step-no-fault caller host step later (stations_behind before a) b at.rest (rest-resets host steps before (step ∷ later) same none)
      run of_host;
}

-- Each tick without a fault: in a part of the steps, and in two consecutive parts

each-before : (host : ℕ) (first : AtomicStep) (later : List AtomicStep) → OfEachTick host (first ∷ later) NoFaultAt
    → OfEachTick host later NoFaultAt
each-before host first later each before rest step same of_host =
    each (first ∷ before) rest step (ap (λ (list : List AtomicStep). first ∷ list) same) of_host

each-joins : (host : ℕ) (first later : List AtomicStep) → OfEachTick host first NoFaultAt → OfEachTick host later NoFaultAt
    → OfEachTick host (first ++ later) NoFaultAt
each-joins host [] later each rest before behind step same of_host = rest before behind step same of_host
each-joins host (one ∷ first) later each rest [] behind step same of_host =
    let is : step ≡ one = cc in
    subst (λ (s : AtomicStep). step_outcome s ≢ Fault) (sym is)
    (each [] first one refl (subst (λ (s : AtomicStep). IsTickOf host (tick_of s)) is of_host))
each-joins host (one ∷ first) later each rest (two ∷ before) behind step same of_host =
    let tails : first ++ later ≡ before ++ step ∷ behind = cc in
    each-joins host first later (each-before host one first each) rest before behind step tails of_host

access-first : (host : ℕ) (access : Access) → OfEachTick host (At host (Accesses access) ∷ []) NoFaultAt
access-first host access [] behind step same of_host =
    let is : At host (Accesses access) ≡ step = cc in
    absurd (subst (λ (s : AtomicStep). IsTickOf host (tick_of s)) (sym is) of_host)
access-first host access (one ∷ []) behind step same of_host = absurd (cc)
access-first host access (one ∷ two ∷ before) behind step same of_host = absurd (cc)

pub faultless-around-reset : FaultNeverComesAroundReset
faultless-around-reset caller host first later access a before after_atomic b leads none run leads_later none_later run_later =
    let earlier = fault-never-comes caller host first a before leads none run in
    let rest = fault-never-comes caller host later after_atomic b leads_later none_later run_later in
    record {
      run = earlier.run;
      none = each-joins host first (At host (Accesses access) ∷ later) earlier.none
          (each-joins host (At host (Accesses access) ∷ []) later (access-first host access) rest.none);
    }

-- Idle ticks

pub go-nothing : GoAnswersNothing
go-nothing (At host (Steps kind wire_free answer)) is = absurd (cc)
go-nothing (At host (Arrives frame fate)) is = absurd (cc)
go-nothing (At host (Accesses access)) is = refl
go-nothing (Idles tick) is = refl

absent-step : (host : ℕ) (step : AtomicStep) (stations : List StationState) → wire_at stations host ≡ None
    → CanHappen step stations → IsTickOf host (tick_of step) → step_outcome step ≡ Nothing
absent-step host (At other (Steps kind wire_free answer)) stations none occurs of_host =
    let contrary : Some occurs.wire ≡ None = sym occurs.on_wire ∙ ap (wire_at stations) of_host ∙ none in
    absurd (cc)
absent-step host (At other (Arrives frame fate)) stations none occurs of_host =
    let contrary : Some occurs.wire ≡ None = sym occurs.on_wire ∙ ap (wire_at stations) of_host ∙ none in
    absurd (cc)
absent-step host (At other (Accesses access)) stations none occurs of_host = refl
absent-step host (Idles tick) stations none occurs of_host = refl

pub absent-nothing : AbsentHostsAnswerNothing
absent-nothing caller host steps a b leads absent before later step same of_host =
    let at = parts-of caller steps before later step a b same leads in
    absent-step host step (stations_behind before a)
    (run-wires caller before a (stations_behind before a) host at.leads ∙ ap wire_of absent) at.happens of_host

-- Outcomes

-- after the steps `before`, the host's counts are those of `counts_at`, and no engine of the host is stopped
record Known (host : ℕ) (before : List AtomicStep) (a : List StationState) : Type 0 where
  counts : counts_of (world_at (stations_behind before a) host).adapter ≡ counts_at a before host
  run : EnginesRun (world_at (stations_behind before a) host).adapter

some-queued : (buffer : List Queued) → buffer ≢ [] → (length buffer == 0) ≡ false
some-queued [] some = absurd (some refl)
some-queued (queued ∷ buffer) some =
    elim (eqb_tells (length (queued ∷ buffer)) 0) [ inl none ↦ absurd (omega (arith, none.1)) | inr is ↦ is.0 ]

has-oldest : (buffer : List Queued) (frame : List ℕ) → IsOldest buffer frame → buffer ≢ []
has-oldest [] frame oldest = absurd oldest
has-oldest (queued ∷ buffer) frame oldest = λ none. absurd (cc)

by-test : (test test' : Bool) (P Q : Type 0) → test ≡ test' → MatchBool test' P Q → MatchBool test P Q
by-test test test' P Q same fact = subst (λ (t : Bool). MatchBool t P Q) (sym same) fact

put-answer : (caller host : ℕ) (before : List AtomicStep) (a : List StationState) (wire_free : Bool) (answer : FrameOutcome)
    → LeadsTo caller before a (stations_behind before a) → OccursAt host (Steps TxPut wire_free answer) (stations_behind before a)
    → PutAnswers wire_free (world_at (stations_behind before a) host).adapter answer
    → IsStepOutcome a before host (counts_of (world_at (stations_behind before a) host).adapter) TxPut answer
put-answer caller host before a wire_free Nothing leads occurs none =
    by-test _ true _ _ (ap (λ (buffer : List Queued). length buffer == 0) none) refl
put-answer caller host before a wire_free WireFull leads occurs full =
    by-test _ false _ _ (some-queued (world_at (stations_behind before a) host).adapter.transmitter.buffer full.0)
    (full-by-counting caller host occurs.wire before a (stations_behind before a) leads occurs.on_wire (λ room.
    let free : wire_free ≡ true = (occurs.suits_wire refl).1 room in
    let contrary : true ≡ false = sym free ∙ full.1 in
    absurd (cc)))
put-answer caller host before a wire_free (Put frame) leads occurs put =
    by-test _ false _ _
    (some-queued (world_at (stations_behind before a) host).adapter.transmitter.buffer
    (has-oldest (world_at (stations_behind before a) host).adapter.transmitter.buffer frame put.1)) (
      room-by-counting caller host occurs.wire before a (stations_behind before a) leads occurs.on_wire ((occurs.suits_wire refl).0 put.0),
      put.1,
    )
put-answer caller host before a wire_free _ leads occurs none = absurd none

step-answer : (caller host : ℕ) (before : List AtomicStep) (a : List StationState) (kind : StepKind) (wire_free : Bool)
    (answer : FrameOutcome)
    → LeadsTo caller before a (stations_behind before a) → OccursAt host (Steps kind wire_free answer) (stations_behind before a)
    → Known host before a → answer ≢ Fault
    → IsStepOutcome a before host (counts_of (world_at (stations_behind before a) host).adapter) kind answer
step-answer caller host before a TxTake wire_free answer leads occurs known well =
    take-answer (world_at (stations_behind before a) host).memory (world_at (stations_behind before a) host).adapter answer
    known.run.transmitter well occurs.occurs.1
step-answer caller host before a TxPut wire_free answer leads occurs known well =
    put-answer caller host before a wire_free answer leads occurs occurs.occurs.1
step-answer caller host before a RxData wire_free answer leads occurs known well =
    data-answer (world_at (stations_behind before a) host).memory (world_at (stations_behind before a) host).adapter answer
    known.run.receiver well occurs.occurs.1
step-answer caller host before a RxDone wire_free answer leads occurs known well =
    done-answer (world_at (stations_behind before a) host).adapter answer occurs.occurs.1
step-answer caller host before a EepromTick wire_free answer leads occurs known well =
    eeprom-answer (world_at (stations_behind before a) host).adapter answer occurs.occurs.1
step-answer caller host before a PhyTick wire_free answer leads occurs known well =
    phy-answer (world_at (stations_behind before a) host).adapter answer occurs.occurs.1

is-delivery : (waiting : List (List ℕ)) (frame : List ℕ) (fate : Fate) → slice_get waiting 0 ≡ Some frame
    → IsDelivery waiting (Delivered frame fate)
is-delivery [] frame fate oldest = absurd (cc)
is-delivery (first ∷ later) frame fate oldest =
    let same : frame ≡ first = cc in
    (fate, ap (λ (f : List ℕ). Delivered f fate) same)

no-delivery : (waiting : List (List ℕ)) → waiting ≡ [] → IsDelivery waiting Nothing
no-delivery [] none = refl
no-delivery (first ∷ later) none = absurd (cc)

idle-step : (start : List StationState) (before : List AtomicStep) (host : ℕ) (kind : StepKind) (found : Option StationState) → found ≡ None
    → IsStepOutcome start before host (counts_of (world_of found).adapter) kind Nothing
idle-step start before host TxPut None none = refl
idle-step start before host _ None none = refl
idle-step start before host kind (Some s) none = absurd (cc)

tick-answer : (caller host : ℕ) (before : List AtomicStep) (step : AtomicStep) (a : List StationState)
    → LeadsTo caller before a (stations_behind before a) → CanHappen step (stations_behind before a)
    → Known host before a → IsTickOf host (tick_of step) → step_outcome step ≢ Fault
    → IsTickOutcome a before (tick_of step) (step_outcome step)
tick-answer caller host before (At other (Steps kind wire_free answer)) a leads happens known of_host well =
    let occurs = subst (λ (k : ℕ). OccursAt k (Steps kind wire_free answer) (stations_behind before a)) of_host happens in
    let answered = step-answer caller host before a kind wire_free answer leads occurs known well in
    subst (λ (k : ℕ). IsTickOutcome a before (Step k kind) answer) (sym of_host)
    (subst (λ (counts : HostCounts). IsStepOutcome a before host counts kind answer) known.counts answered)
tick-answer caller host before (At other (Arrives frame fate)) a leads happens known of_host well =
    is-delivery (waiting_at a before other) frame fate
    (ap (λ (frames : List (List ℕ)). slice_get frames 0) (sym (run-waiting caller other before a (stations_behind before a) leads))
    ∙ happens.suits_wire)
tick-answer caller host before (At other (Accesses access)) a leads happens known of_host well = absurd of_host
tick-answer caller host before (Idles Go) a leads happens known of_host well = absurd of_host
tick-answer caller host before (Idles (Step other kind)) a leads happens known of_host well =
    let mid = stations_behind before a in
    let none : slice_get mid host ≡ None = ap (slice_get mid) (sym of_host) ∙ happens in
    subst (λ (k : ℕ). IsTickOutcome a before (Step k kind) Nothing) (sym of_host)
    (subst (λ (counts : HostCounts). IsStepOutcome a before host counts kind Nothing) known.counts
    (idle-step a before host kind (slice_get mid host) none))
tick-answer caller host before (Idles (Deliver other)) a leads happens known of_host well =
    no-delivery (waiting_at a before other) (sym (run-waiting caller other before a (stations_behind before a) leads) ∙ happens)

each-first : (host : ℕ) (first rest : List AtomicStep) → OfEachTick host (first ++ rest) NoFaultAt → OfEachTick host first NoFaultAt
each-first host first rest each before behind step same of_host =
    each before (behind ++ rest) step
    (ap (λ (list : List AtomicStep). list ++ rest) same ∙ append_assoc before (step ∷ behind) rest) of_host

run-behind : (caller host : ℕ) (steps before later : List AtomicStep) (step : AtomicStep) (a : List StationState)
    → LeadsTo caller before a (stations_behind before a) → steps ≡ before ++ step ∷ later → MeetsNoFault host steps a
    → EnginesRun (world_at (stations_behind before a) host).adapter
run-behind caller host steps before later step a leads same faultless =
    let whole = subst (λ (list : List AtomicStep). OfEachTick host list NoFaultAt) same faultless.none in
    trail-runs (events_at host before) (world_at a host) (world_at (stations_behind before a) host)
    (none-fault host before (each-first host before (step ∷ later) whole)) (trail-of caller host before a (stations_behind before a) leads)
    faultless.run

pub ticks-answered : OutcomesFollowFromCounts
ticks-answered caller host steps a b leads counted faultless before later step same of_host =
    let at = parts-of caller steps before later step a b same leads in
    let mid = stations_behind before a in
    let accesses : All IsCounted ((past_at host before).accesses ++ (past_at host (step ∷ later)).accesses) =
    subst (λ (list : List Access). All IsCounted list) (accesses-of host steps before (step ∷ later) same) counted in
    let counts = trail-goes (events_at host before) (world_at a host) (world_at mid host)
    (all-left IsCounted (past_at host before).accesses (past_at host (step ∷ later)).accesses accesses)
    (trail-of caller host before a mid at.leads) in
    tick-answer caller host before step a at.leads at.happens
    (record { counts = counts; run = run-behind caller host steps before later step a at.leads same faultless })
    of_host (faultless.none before later step same of_host)
