-- If no cause that a driver handles is recorded at the end of a trail of steps and deliveries, its events are quiet
-- (`AreQuietEvents`).
use Rattle.std.proofs.Common.{◌≡◌, ◌<◌, ◌^◌, ◌++◌, ◌∷◌, [], ◌∙◌}
use Rattle.std.proofs.Common.{ℕ, Bool, true, false, Option, Some, None, List, refl, sym, ap, subst}
use Rattle.std.proofs.Common.{arith}
use Rattle.std.specs.List.{All}
use Rattle.std.proofs.lemmas.Nat.{and_comm}
use Rattle.mdic_phy.specs.Mdic.{told}
use Rattle.mdic_phy.specs.declared.mdic.Ticked.{Ticked}
use Rattle.registers.specs.Bits.{HasBit, Meet}
use Rattle.registers.specs.Laws.{Meet-places}
use Rattle.rx_engine.specs.Receiver.{Receiver}
use Rattle.rx_engine.specs.declared.arrival.Fate.TheVariants.{Filtered, Illegal, Missed, Off, Stored}
use Rattle.tx_engine.specs.Steps.{IfFront}
use Rattle.tx_engine.specs.Transmitter.{Queued}
use Rattle.adapter.specs.Conditions.{Reports, Sound}
use Rattle.adapter.specs.Receiving.{DataAnswers, is_ending}
use Rattle.adapter.specs.State.{AdapterState}
use Rattle.adapter.specs.Steps.{after_phy_told, ticked}
use Rattle.adapter.specs.Transmitting.{TakeAnswers}
use Rattle.adapter.specs.World.{World}
use Rattle.adapter.specs.model_types.step.StepKind.TheVariants.{EepromTick, PhyTick, RxData, RxDone, TxPut, TxTake}
use Rattle.adapter.specs.Outcomes.{FrameOutcome}
use Rattle.adapter.specs.model_types.outcome.Outcome.TheVariants.{Done, Fault, Moved, Nothing, Part, Put, Took, WireFull}
use Rattle.bring_up.specs.WrittenRegisters.{handled_causes}
use Rattle.adapter.proofs.Lists.{all-head, all-none, all-tail}
use Rattle.adapter.proofs.TrailCauses.{recorded_causes_stay}
use Rattle.adapter.proofs.Trails.{event_happens}
use Rattle.adapter.specs.Accesses.{LeavesCauses}
use Rattle.adapter.specs.Trails.{IsStep, Occurs, Trail, past_of, world_after}
use Rattle.adapter.specs.bus_types.event.Access.{Access}
use Rattle.adapter.specs.bus_types.event.Event.{Event}
use Rattle.adapter.specs.bus_types.event.Event.TheVariants.{Accesses, Arrives, Steps}
use Rattle.adapter.proofs.StepsThenAccess.{no_access}
use Rattle.stations.specs.AtomicSteps.{outcome_of_event}
use Rattle.host_calls.specs.InterruptCauses.{AreQuietEvents, IsQuietOutcome, ends_after}

-- Sets of causes

handled-fits : handled_causes < 2 ^ 32
handled-fits = omega arith

pub meets : (causes number : ℕ) → HasBit causes number → HasBit handled_causes number → Meet causes handled_causes
meets causes number bit handled =
    subst (λ (n : ℕ). 0 < n) (and_comm handled_causes causes)
    ((Meet-places handled_causes causes handled-fits).1 (number, handled, bit))

pub common : (causes : ℕ) → Meet causes handled_causes → (number : ℕ) × HasBit causes number × HasBit handled_causes number
common causes meet =
    let both = (Meet-places handled_causes causes handled-fits).0
    (subst (λ (n : ℕ). 0 < n) (and_comm causes handled_causes) meet) in (both.0, both.2, both.1)

pub leaves-alone : (events : List Event) → All IsStep events → All LeavesCauses (past_of events).accesses
leaves-alone events are =
    subst (λ (list : List Access). All LeavesCauses list) (sym (no_access events are)) (all-none LeavesCauses)

front-reports : (buffer more : List Queued) → All Reports (buffer ++ more) → IfFront buffer (λ queued. queued.rs ≡ true)
front-reports [] more all = tt
front-reports (queued ∷ later) more all = all-head Reports queued (later ++ more) all

-- Steps of each kind that record no cause that a driver handles

take-quiet : (ends : Bool) (memory : List ℕ) (state : AdapterState) (answer : FrameOutcome) → TakeAnswers memory state answer
    → IsQuietOutcome ends answer
take-quiet ends memory state Took answers = tt
take-quiet ends memory state Nothing answers = tt
take-quiet ends memory state Fault answers = tt
take-quiet ends memory state _ answers = absurd answers

data-quiet : (ends : Bool) (memory : List ℕ) (state : AdapterState) (answer : FrameOutcome) → DataAnswers memory state answer
    → IsQuietOutcome ends answer
data-quiet ends memory state Part answers = tt
data-quiet ends memory state Moved answers = tt
data-quiet ends memory state Nothing answers = tt
data-quiet ends memory state Fault answers = tt
data-quiet ends memory state _ answers = absurd answers

tick-quiet : (ends has_work : Bool) (answer : FrameOutcome) → answer ≡ ticked has_work → IsQuietOutcome ends answer
tick-quiet ends true answer is = subst (λ (s : FrameOutcome). IsQuietOutcome ends s) (sym is) tt
tick-quiet ends false answer is = subst (λ (s : FrameOutcome). IsQuietOutcome ends s) (sym is) tt

not-ending : (ends : Bool) → (ends ≡ true → ⊥) → ends ≡ false
not-ending true none = absurd (none refl)
not-ending false none = refl

-- whether the piece in progress is the last of its frame
abbrev pub ends_in : World → Bool
ends_in world = is_ending world.adapter.receiver.work

-- The first event of a trail is quiet, because no later access clears the causes that this event records.
quiet-event : (event : Event) (later : List Event) (a b : World) (oldest_receive oldest_transmit : ℕ) → IsStep event
    → All LeavesCauses (past_of later).accesses → Trail (event ∷ later) a b → Sound oldest_receive oldest_transmit a
    → ¬ (Meet b.adapter.causes.recorded handled_causes) → IsQuietOutcome (ends_in a) (outcome_of_event event)
quiet-event (Steps TxTake wire_free answer) later a b r t is leaves trail sound none =
    take-quiet (ends_in a) a.memory a.adapter answer trail.0.1
quiet-event (Steps RxData wire_free answer) later a b r t is leaves trail sound none =
    data-quiet (ends_in a) a.memory a.adapter answer trail.0.1
quiet-event (Steps EepromTick wire_free answer) later a b r t is leaves trail sound none = tick-quiet (ends_in a) _ answer trail.0.1
quiet-event (Steps PhyTick wire_free answer) later a b r t is leaves trail sound none = tick-quiet (ends_in a) _ answer trail.0.1
quiet-event (Steps TxPut wire_free (Put frame)) later a b r t is leaves trail sound none =
    let asks = front-reports a.adapter.transmitter.buffer _ sound.reports in
    absurd (none (meets b.adapter.causes.recorded 0 ((recorded_causes_stay later a b leaves).put wire_free frame trail asks) refl))
quiet-event (Steps TxPut wire_free WireFull) later a b r t is leaves trail sound none = tt
quiet-event (Steps TxPut wire_free Nothing) later a b r t is leaves trail sound none = tt
quiet-event (Steps TxPut wire_free _) later a b r t is leaves trail sound none = absurd trail.0.1
quiet-event (Steps RxDone wire_free Done) later a b r t is leaves trail sound none =
    not-ending (ends_in a) (λ last.
    none (meets b.adapter.causes.recorded 7 ((recorded_causes_stay later a b leaves).done wire_free trail last) refl))
quiet-event (Steps RxDone wire_free Nothing) later a b r t is leaves trail sound none = tt
quiet-event (Steps RxDone wire_free _) later a b r t is leaves trail sound none = absurd trail.0.1
quiet-event (Arrives frame Missed) later a b r t is leaves trail sound none =
    absurd (none (meets b.adapter.causes.recorded 6 ((recorded_causes_stay later a b leaves).missed frame trail) refl))
quiet-event (Arrives frame Off) later a b r t is leaves trail sound none = tt
quiet-event (Arrives frame Illegal) later a b r t is leaves trail sound none = tt
quiet-event (Arrives frame Filtered) later a b r t is leaves trail sound none = tt
quiet-event (Arrives frame Stored) later a b r t is leaves trail sound none = tt
quiet-event (Accesses access) later a b r t is leaves trail sound none = absurd is

-- Whether the piece in progress is the last of its frame, after an event

tick-ends : (ends has_work : Bool) (answer : FrameOutcome) → answer ≡ ticked has_work → ends ≡ ends_after ends answer
tick-ends ends true answer is = subst (λ (s : FrameOutcome). ends ≡ ends_after ends s) (sym is) refl
tick-ends ends false answer is = subst (λ (s : FrameOutcome). ends ≡ ends_after ends s) (sym is) refl

told-ends : (tells : Option Ticked) (state : AdapterState) → (after_phy_told tells state).receiver ≡ state.receiver
told-ends None state = refl
told-ends (Some tells) state = refl

ends-on : (event : Event) (world : World) → IsStep event → Occurs event world
    → ends_in (world_after event world) ≡ ends_after (ends_in world) (outcome_of_event event)
ends-on (Steps TxTake wire_free Took) world is occurs = refl
ends-on (Steps TxTake wire_free Nothing) world is occurs = refl
ends-on (Steps TxTake wire_free Fault) world is occurs = refl
ends-on (Steps TxTake wire_free _) world is occurs = absurd occurs.1
ends-on (Steps TxPut wire_free (Put frame)) world is occurs = refl
ends-on (Steps TxPut wire_free WireFull) world is occurs = refl
ends-on (Steps TxPut wire_free Nothing) world is occurs = refl
ends-on (Steps TxPut wire_free _) world is occurs = absurd occurs.1
ends-on (Steps RxData wire_free Part) world is occurs = refl
ends-on (Steps RxData wire_free Moved) world is occurs = refl
ends-on (Steps RxData wire_free Nothing) world is occurs = refl
ends-on (Steps RxData wire_free Fault) world is occurs = refl
ends-on (Steps RxData wire_free _) world is occurs = absurd occurs.1
ends-on (Steps RxDone wire_free Done) world is occurs = refl
ends-on (Steps RxDone wire_free Nothing) world is occurs = refl
ends-on (Steps RxDone wire_free _) world is occurs = absurd occurs.1
ends-on (Steps EepromTick wire_free answer) world is occurs = tick-ends (ends_in world) _ answer occurs.1
ends-on (Steps PhyTick wire_free answer) world is occurs =
    ap (λ (engine : Receiver). is_ending engine.work) (told-ends (told world.adapter.mdic world.adapter.phy) world.adapter)
    ∙ tick-ends (ends_in world) _ answer occurs.1
ends-on (Arrives frame Off) world is occurs = refl
ends-on (Arrives frame Illegal) world is occurs = refl
ends-on (Arrives frame Filtered) world is occurs = refl
ends-on (Arrives frame Missed) world is occurs = refl
ends-on (Arrives frame Stored) world is occurs = refl
ends-on (Accesses access) world is occurs = absurd is

pub quiet-events : (events : List Event) (a b : World) (oldest_receive oldest_transmit : ℕ) → All IsStep events → Trail events a b
    → Sound oldest_receive oldest_transmit a → ¬ (Meet b.adapter.causes.recorded handled_causes)
    → AreQuietEvents (ends_in a) events
quiet-events [] a b r t are trail sound none = tt
quiet-events (event ∷ later) a b r t are trail sound none =
    let is = all-head IsStep event later are in
    let rest = all-tail IsStep event later are in
    let happens = event_happens event a is trail.0 in (
      quiet-event event later a b r t is (leaves-alone later rest) trail sound none,
      subst (λ (ends : Bool). AreQuietEvents ends later) (ends-on event a is trail.0)
          (quiet-events later (world_after event a) b r t rest trail.1 (happens.between r t sound).sound none),
    )
