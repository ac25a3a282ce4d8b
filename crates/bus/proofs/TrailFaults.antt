-- A fault stops an engine until the next reset.
use Rattle.std.proofs.Common.{◌≡◌, ◌⊎◌, ℕ, Bool, true, false, inl, inr, Option, Some, None, List, [], ◌∷◌, refl, sym, ap, subst, ◌∙◌}
use Rattle.std.specs.List.{All}
use Rattle.std.specs.Prelude.{IfSome}
use Rattle.std.proofs.lemmas.List.Elements.{All-cons}
use Rattle.eeprom.specs.Eerd.{is_pending}
use Rattle.mdic_phy.specs.Mdic.{has_work, told}
use Rattle.mdic_phy.specs.declared.mdic.Ticked.{Ticked}
use Rattle.rx_engine.specs.declared.arrival.Fate.{Fate}
use Rattle.rx_engine.specs.declared.arrival.Fate.TheVariants.{Missed, Stored}
use Rattle.adapter_model.specs.Receiving.{after_arrive}
use Rattle.adapter_model.specs.Registers.{left_by_read, left_by_write, read_of}
use Rattle.adapter_model.specs.State.{AdapterState}
use Rattle.adapter_model.specs.Steps.{Answers, after_phy_told, ticked}
use Rattle.adapter_model.specs.Table.{register_at}
use Rattle.adapter_model.specs.World.{World}
use Rattle.adapter_model.specs.declared.register.Register.{Register}
use Rattle.adapter_model.specs.declared.register.Register.TheVariants.{Icr, Mpc, Gprc, Gptc, Rnbc}
use Rattle.adapter_model.specs.declared.step.StepKind.{StepKind}
use Rattle.adapter_model.specs.declared.step.StepKind.TheVariants.{TxTake, TxPut, RxData, RxDone, EepromTick, PhyTick}
use Rattle.adapter_model.specs.Outcomes.{FrameOutcome}
use Rattle.adapter_model.specs.declared.outcome.Outcome.TheVariants.{Took, Put, Part, Moved, Done, Fault}
use Rattle.bus.specs.Accesses.{IsNoReset, ResetsNothing}
use Rattle.bus.specs.declared.event.Access.TheVariants.{Loads, Reads, Stores, Writes}
use Rattle.bus.specs.StepsAndArrivals.{world_after_step}
use Rattle.bus.specs.TrailFaults.{EnginesRun, FaultsStay, IsNoFault, RunningEnginesMetNoFault, StaysStopped}
use Rattle.bus.specs.Trails.{Occurs, past_of, past_of_event, world_after}
use Rattle.bus.specs.declared.event.Event.{Event}
use Rattle.bus.specs.declared.event.Event.TheVariants.{Accesses, Arrives, Steps}
use Rattle.bus.proofs.Accesses.{by-row}
use Rattle.bus.proofs.Lists.{all-head, all-left, all-none, all-right}
use Rattle.bus.proofs.RegisterWrites.{row-leaves}

-- A stopped engine remains stopped.

same : (a b : AdapterState) → b.receiver.stopped ≡ a.receiver.stopped → b.transmitter.stopped ≡ a.transmitter.stopped → StaysStopped a b
same a b receiver transmitter = record { receiver = λ stopped. receiver ∙ stopped; transmitter = λ stopped. transmitter ∙ stopped }

told-stays : (tells : Option Ticked) (a : AdapterState) → StaysStopped a (after_phy_told tells a)
told-stays None a = same a a refl refl
told-stays (Some ticked) a = same a (after_phy_told (Some ticked) a) refl refl

pub step_stays : (kind : StepKind) (answer : FrameOutcome) (world : World)
    → StaysStopped world.adapter (world_after_step kind answer world).adapter
step_stays TxTake Took world = same world.adapter _ refl refl
step_stays TxTake Fault world = record { receiver = λ stopped. stopped; transmitter = λ stopped. refl }
step_stays TxTake _ world = same world.adapter _ refl refl
step_stays TxPut (Put frame) world = same world.adapter _ refl refl
step_stays TxPut _ world = same world.adapter _ refl refl
step_stays RxData Part world = same world.adapter _ refl refl
step_stays RxData Moved world = same world.adapter _ refl refl
step_stays RxData Fault world = record { receiver = λ stopped. refl; transmitter = λ stopped. stopped }
step_stays RxData _ world = same world.adapter _ refl refl
step_stays RxDone Done world = same world.adapter _ refl refl
step_stays RxDone _ world = same world.adapter _ refl refl
step_stays EepromTick answer world = same world.adapter _ refl refl
step_stays PhyTick answer world = told-stays (told world.adapter.mdic world.adapter.phy) world.adapter

arrival-stays : (fate : Fate) (frame : List ℕ) (a : AdapterState) → StaysStopped a (after_arrive fate frame a)
arrival-stays Missed frame a = same a _ refl refl
arrival-stays Stored frame a = same a _ refl refl
arrival-stays _ frame a = same a a refl refl

register-read : (register : Register) (a : AdapterState) → StaysStopped a (read_of register a)
register-read Icr a = same a _ refl refl
register-read Mpc a = same a _ refl refl
register-read Gprc a = same a _ refl refl
register-read Gptc a = same a _ refl refl
register-read Rnbc a = same a _ refl refl
register-read _ a = same a _ refl refl

found-read : (found : Option Register) (a : AdapterState) → StaysStopped a (left_by_read found a)
found-read None a = same a a refl refl
found-read (Some register) a = register-read register a

found-written : (found : Option Register) (value : ℕ) (a : AdapterState) → IfSome found (ResetsNothing value)
    → StaysStopped a (left_by_write found value a)
found-written None value a keeps = same a a refl refl
found-written (Some register) value a keeps =
    let left = row-leaves register value a in
    subst (λ (b : AdapterState). StaysStopped a b) (sym (by-row register value a keeps))
    (same a _ (ap (λ engine. engine.stopped) left.receiver) (ap (λ engine. engine.stopped) left.transmitter))

pub event_stays : (event : Event) (world : World) → All IsNoReset (past_of_event event).accesses
    → StaysStopped world.adapter (world_after event world).adapter
event_stays (Steps kind wire_free answer) world keeps = step_stays kind answer world
event_stays (Arrives frame fate) world keeps = arrival-stays fate frame world.adapter
event_stays (Accesses (Reads offset value)) world keeps = found-read (register_at offset) world.adapter
event_stays (Accesses (Writes offset value)) world keeps =
    found-written (register_at offset) value world.adapter (all-head IsNoReset (Writes offset value) [] keeps)
event_stays (Accesses (Loads address size)) world keeps = same world.adapter _ refl refl
event_stays (Accesses (Stores address bytes)) world keeps = same world.adapter _ refl refl

pub faults_stay : FaultsStay
faults_stay [] a b keeps trail =
    same a.adapter b.adapter
    (ap (λ (w : World). w.adapter.receiver.stopped) trail)
    (ap (λ (w : World). w.adapter.transmitter.stopped) trail)
faults_stay (event ∷ later) a b keeps trail =
    let first = event_stays event a (all-left IsNoReset (past_of_event event).accesses (past_of later).accesses keeps) in
    let behind = all-right IsNoReset (past_of_event event).accesses (past_of later).accesses keeps in
    let rest = faults_stay later (world_after event a) b behind trail.1 in
    record {
      receiver = λ stopped. rest.receiver (first.receiver stopped);
      transmitter = λ stopped. rest.transmitter (first.transmitter stopped);
    }

-- A fault stops an engine.

no-tick : (works : Bool) → Fault ≡ ticked works → ⊥
no-tick true is = absurd (cc)
no-tick false is = absurd (cc)

-- an engine of the adapter is stopped
abbrev IsStopped : AdapterState → Type 0
IsStopped adapter = (adapter.receiver.stopped ≡ true) ⊎ (adapter.transmitter.stopped ≡ true)

pub fault_stops : (kind : StepKind) (wire_free : Bool) (world : World) → Answers kind wire_free world.memory world.adapter Fault
    → IsStopped (world_after_step kind Fault world).adapter
fault_stops TxTake wire_free world answers = inr refl
fault_stops TxPut wire_free world answers = absurd answers
fault_stops RxData wire_free world answers = inl refl
fault_stops RxDone wire_free world answers = absurd answers
fault_stops EepromTick wire_free world answers = absurd (no-tick (is_pending world.adapter.eerd) answers)
fault_stops PhyTick wire_free world answers = absurd (no-tick (has_work world.adapter.mdic world.adapter.phy) answers)

both : (stopped : Bool) → stopped ≡ true → stopped ≡ false → ⊥
both true stands runs = absurd (cc)
both false stands runs = absurd (cc)

stopped-runs : (a b : AdapterState) → IsStopped a → StaysStopped a b → EnginesRun b → ⊥
stopped-runs a b (inl stopped) stays run = both b.receiver.stopped (stays.receiver stopped) run.receiver
stopped-runs a b (inr stopped) stays run = both b.transmitter.stopped (stays.transmitter stopped) run.transmitter

event-was-none : (event : Event) (a b : World)
    → Occurs event a → StaysStopped (world_after event a).adapter b.adapter → EnginesRun b.adapter → IsNoFault event
event-was-none (Steps kind wire_free answer) a b occurs stays run = λ fault.
    let answers = subst (λ (x : FrameOutcome). Answers kind wire_free a.memory a.adapter x) fault occurs.1 in
    let stays = subst (λ (x : FrameOutcome). StaysStopped (world_after_step kind x a).adapter b.adapter) fault stays in
    stopped-runs (world_after_step kind Fault a).adapter b.adapter (fault_stops kind wire_free a answers) stays run
event-was-none (Arrives frame fate) a b occurs stays run = tt
event-was-none (Accesses access) a b occurs stays run = tt

pub running_engines_met_no_fault : RunningEnginesMetNoFault
running_engines_met_no_fault [] a b keeps trail run = all-none IsNoFault
running_engines_met_no_fault (event ∷ later) a b keeps trail run =
    let behind = all-right IsNoReset (past_of_event event).accesses (past_of later).accesses keeps in
    All-cons IsNoFault event later
    (event-was-none event a b trail.0 (faults_stay later (world_after event a) b behind trail.1) run)
    (running_engines_met_no_fault later (world_after event a) b behind trail.1 run)
