-- If no step is a fault, engines that aren't stopped aren't stopped later, whatever is written. A reset starts stopped
-- engines.
use Rattle.std.proofs.Common.{◌≡◌, ◌≢◌, ◌==◌, ℕ, Bool, true, false, Option, Some, None, List, [], ◌∷◌, refl, sym, ap, subst, ◌∙◌}
use Rattle.std.proofs.Common.{if◌then◌else◌}
use Rattle.std.specs.List.{All}
use Rattle.std.proofs.lemmas.Bool.{eqb-true}
use Rattle.std.proofs.lemmas.List.Elements.{All-append, All-cons}
use Rattle.mdic_phy.specs.Mdic.{told}
use Rattle.mdic_phy.specs.declared.mdic.Ticked.{Ticked}
use Rattle.rx_engine.specs.declared.arrival.Fate.{Fate}
use Rattle.rx_engine.specs.declared.arrival.Fate.TheVariants.{Missed, Stored}
use Rattle.adapter.specs.Outcomes.{FrameOutcome}
use Rattle.adapter.specs.Receiving.{after_arrive}
use Rattle.adapter.specs.Registers.{after_reset, is_reset, left_by_read, left_by_write, read_of}
use Rattle.adapter.specs.State.{AdapterState}
use Rattle.adapter.specs.Steps.{after_phy_told}
use Rattle.adapter.specs.Table.{register_at}
use Rattle.adapter.specs.World.{World}
use Rattle.adapter.specs.model_types.outcome.Outcome.TheVariants.{Done, Fault, Moved, Part, Put, Took}
use Rattle.adapter.specs.model_types.register.Register.{Register}
use Rattle.adapter.specs.model_types.register.Register.TheVariants.{Gprc, Gptc, Icr, Mpc, Rnbc}
use Rattle.adapter.specs.model_types.step.StepKind.{StepKind}
use Rattle.adapter.specs.model_types.step.StepKind.TheVariants.{EepromTick, PhyTick, RxData, RxDone, TxPut, TxTake}
use Rattle.adapter.proofs.Lists.{all-head, all-none, all-tail}
use Rattle.adapter.proofs.RegisterWrites.{row-leaves}
use Rattle.adapter.specs.StepsAndArrivals.{world_after_step}
use Rattle.adapter.specs.TrailFaults.{EnginesRun, IsNoFault}
use Rattle.adapter.specs.Trails.{Trail, world_after}
use Rattle.adapter.specs.bus_types.event.Access.TheVariants.{Loads, Reads, Stores, Writes}
use Rattle.adapter.specs.bus_types.event.Event.{Event}
use Rattle.adapter.specs.bus_types.event.Event.TheVariants.{Accesses, Arrives, Steps}
use Rattle.stations.specs.AtomicRuns.{events_at, events_by}
use Rattle.stations.specs.AtomicSteps.{At, AtomicStep, Idles, step_outcome, outcome_of_event, tick_of}
use Rattle.stations.specs.declared.tick.Tick.{Tick}
use Rattle.host_calls.specs.StepOutcomes.{IsTickOf, OfEachTick}

same : (a b : AdapterState) → b.receiver.stopped ≡ a.receiver.stopped → b.transmitter.stopped ≡ a.transmitter.stopped
    → EnginesRun a → EnginesRun b
same a b receiver transmitter run = record { receiver = receiver ∙ run.receiver; transmitter = transmitter ∙ run.transmitter }

told-runs : (tells : Option Ticked) (a : AdapterState) → EnginesRun a → EnginesRun (after_phy_told tells a)
told-runs None a run = run
told-runs (Some ticked) a run = same a (after_phy_told (Some ticked) a) refl refl run

step-runs : (kind : StepKind) (answer : FrameOutcome) (world : World) → answer ≢ Fault → EnginesRun world.adapter
    → EnginesRun (world_after_step kind answer world).adapter
step-runs TxTake Took world well run = same world.adapter _ refl refl run
step-runs TxTake Fault world well run = absurd (well refl)
step-runs TxTake _ world well run = same world.adapter _ refl refl run
step-runs TxPut (Put frame) world well run = same world.adapter _ refl refl run
step-runs TxPut _ world well run = same world.adapter _ refl refl run
step-runs RxData Part world well run = same world.adapter _ refl refl run
step-runs RxData Moved world well run = same world.adapter _ refl refl run
step-runs RxData Fault world well run = absurd (well refl)
step-runs RxData _ world well run = same world.adapter _ refl refl run
step-runs RxDone Done world well run = same world.adapter _ refl refl run
step-runs RxDone _ world well run = same world.adapter _ refl refl run
step-runs EepromTick answer world well run = same world.adapter _ refl refl run
step-runs PhyTick answer world well run = told-runs (told world.adapter.mdic world.adapter.phy) world.adapter run

arrival-runs : (fate : Fate) (frame : List ℕ) (a : AdapterState) → EnginesRun a → EnginesRun (after_arrive fate frame a)
arrival-runs Missed frame a run = same a _ refl refl run
arrival-runs Stored frame a run = same a _ refl refl run
arrival-runs _ frame a run = same a a refl refl run

register-read : (register : Register) (a : AdapterState) → EnginesRun a → EnginesRun (read_of register a)
register-read Icr a run = same a _ refl refl run
register-read Mpc a run = same a _ refl refl run
register-read Gprc a run = same a _ refl refl run
register-read Gptc a run = same a _ refl refl run
register-read Rnbc a run = same a _ refl refl run
register-read _ a run = same a _ refl refl run

found-read : (found : Option Register) (a : AdapterState) → EnginesRun a → EnginesRun (left_by_read found a)
found-read None a run = run
found-read (Some register) a run = register-read register a run

reset-runs : (resets : Bool) (a other : AdapterState) → EnginesRun other → EnginesRun (if resets then after_reset a else other)
reset-runs true a other run = record { receiver = refl; transmitter = refl }
reset-runs false a other run = run

found-written : (found : Option Register) (value : ℕ) (a : AdapterState) → EnginesRun a → EnginesRun (left_by_write found value a)
found-written None value a run = run
found-written (Some register) value a run =
    let left = row-leaves register value a in
    reset-runs (is_reset register value) a _
    (same a _ (ap (λ engine. engine.stopped) left.receiver) (ap (λ engine. engine.stopped) left.transmitter) run)

event-runs : (event : Event) (world : World) → IsNoFault event → EnginesRun world.adapter → EnginesRun (world_after event world).adapter
event-runs (Steps kind wire_free answer) world well run = step-runs kind answer world well run
event-runs (Arrives frame fate) world well run = arrival-runs fate frame world.adapter run
event-runs (Accesses (Reads offset value)) world well run = found-read (register_at offset) world.adapter run
event-runs (Accesses (Writes offset value)) world well run = found-written (register_at offset) value world.adapter run
event-runs (Accesses (Loads address size)) world well run = run
event-runs (Accesses (Stores address bytes)) world well run = run

pub trail-runs : (events : List Event) (a b : World) → All IsNoFault events → Trail events a b → EnginesRun a.adapter
    → EnginesRun b.adapter
trail-runs [] a b well trail run = subst (λ (w : World). EnginesRun w.adapter) (sym trail) run
trail-runs (event ∷ later) a b well trail run =
    trail-runs later (world_after event a) b (all-tail IsNoFault event later well) trail.1
    (event-runs event a (all-head IsNoFault event later well) run)

-- Events without a fault

abbrev pub NoFaultAt : List AtomicStep → Tick → FrameOutcome → Type 0
NoFaultAt before tick outcome = outcome ≢ Fault

event-well : (host : ℕ) (event : Event) → (IsTickOf host (tick_of (At host event)) → outcome_of_event event ≢ Fault) → IsNoFault event
event-well host (Steps kind wire_free answer) well = well refl
event-well host (Arrives frame fate) well = tt
event-well host (Accesses access) well = tt

its-own : (here : Bool) (event : Event) → (here ≡ true → IsNoFault event) → All IsNoFault (if here then event ∷ [] else [])
its-own true event well = All-cons IsNoFault event [] (well refl) (all-none IsNoFault)
its-own false event well = all-none IsNoFault

step-well : (host : ℕ) (step : AtomicStep) → (IsTickOf host (tick_of step) → step_outcome step ≢ Fault)
    → All IsNoFault (events_by host step)
step-well host (Idles tick) well = all-none IsNoFault
step-well host (At other event) well = its-own (host == other) event (λ same.
    event-well host event (subst (λ (k : ℕ). IsTickOf host (tick_of (At k event)) → outcome_of_event event ≢ Fault)
    (sym (eqb-true host other same)) well))

pub none-fault : (host : ℕ) (steps : List AtomicStep) → OfEachTick host steps NoFaultAt → All IsNoFault (events_at host steps)
none-fault host [] each = all-none IsNoFault
none-fault host (step ∷ later) each =
    All-append IsNoFault (events_by host step) (events_at host later) (step-well host step (each [] later step refl))
    (none-fault host later (λ before behind next same of_host.
    each (step ∷ before) behind next (ap (λ (list : List AtomicStep). step ∷ list) same) of_host))
