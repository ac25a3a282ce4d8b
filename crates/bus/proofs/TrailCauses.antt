-- Which causes a trail records, and which trails don't change the mask.
use Rattle.std.proofs.Common.{◌≡◌, ℕ, Bool, true, Option, Some, None, List, [], ◌∷◌, cond, bit_or, ◌==◌}
use Rattle.std.proofs.Common.{refl, sym, ap, subst, ◌∙◌, inl, inr, arith}
use Rattle.std.proofs.lemmas.Bool.{eq-eqb}
use Rattle.std.specs.Int.Bits.{or_zero_r}
use Rattle.std.specs.List.{All}
use Rattle.std.proofs.lemmas.Nat.Bits.{bit_at_or, same_from_bits}
use Rattle.mdic_phy.specs.Mdic.{told}
use Rattle.mdic_phy.specs.declared.mdic.Ticked.{Ticked}
use Rattle.registers.specs.Bits.{HasBit, union}
use Rattle.registers.specs.Laws.{HasBit-union}
use Rattle.rx_engine.specs.Moving.{is_half_offered}
use Rattle.rx_engine.specs.declared.arrival.Fate.{Fate}
use Rattle.rx_engine.specs.declared.arrival.Fate.TheVariants.{Missed, Stored}
use Rattle.tx_engine.specs.Steps.{IfFront}
use Rattle.tx_engine.specs.Transmitter.{Queued}
use Rattle.adapter_model.specs.Receiving.{after_arrive, causes_of_finishing, causes_of_moving, is_ending}
use Rattle.adapter_model.specs.Rings.{ring_of}
use Rattle.adapter_model.specs.State.{AdapterState}
use Rattle.adapter_model.specs.Steps.{after_phy_told, causes_told}
use Rattle.adapter_model.specs.Transmitting.{IsOldest, causes_of_putting, causes_of_taking, moved_on}
use Rattle.adapter_model.specs.World.{World}
use Rattle.adapter_model.specs.declared.ring.RingRegisters.{RingRegisters}
use Rattle.adapter_model.specs.declared.step.StepKind.{StepKind}
use Rattle.adapter_model.specs.declared.step.StepKind.TheVariants.{TxTake, TxPut, RxData, RxDone, EepromTick, PhyTick}
use Rattle.adapter_model.specs.Outcomes.{FrameOutcome}
use Rattle.adapter_model.specs.declared.outcome.Outcome.TheVariants.{Took, Put, Part, Moved, Done, Fault}
use Rattle.bus.specs.Accesses.{LeavesCauses, LeavesMask}
use Rattle.bus.specs.StepsAndArrivals.{world_after_step}
use Rattle.bus.specs.TrailCauses.{CausesAreThoseOfSteps, MasksStay, RecordedCausesStay}
use Rattle.bus.specs.TrailCauses.{causes_by, causes_by_arrival, causes_by_step, causes_by_tick, causes_in}
use Rattle.bus.specs.Trails.{Trail, past_of, past_of_event, world_after}
use Rattle.bus.specs.declared.event.Event.{Event}
use Rattle.bus.specs.declared.event.Event.TheVariants.{Accesses, Arrives, Steps}
use Rattle.bus.proofs.Accesses.{access_leaves_causes, access_leaves_mask}
use Rattle.bus.proofs.Lists.{all-head, all-left, all-right}

pub union-assoc : (a b c : ℕ) → union (union a b) c ≡ union a (union b c)
union-assoc a b c = same_from_bits (union (union a b) c) (union a (union b c)) (λ place.
    let left = bit_at_or (bit_or a b) c place in
    let first = bit_at_or a b place in
    let right = bit_at_or a (bit_or b c) place in
    let last = bit_at_or b c place in
    omega arith)

none : (recorded : ℕ) → recorded ≡ union recorded 0
none recorded = sym (or_zero_r recorded)

-- The causes that one event records, and the mask after it.

told-records : (tells : Option Ticked) (a : AdapterState)
    → (after_phy_told tells a).causes.recorded ≡ union a.causes.recorded (causes_by_tick tells)
told-records None a = none a.causes.recorded
told-records (Some ticked) a = refl

pub step_records : (kind : StepKind) (answer : FrameOutcome) (world : World)
    → (world_after_step kind answer world).adapter.causes.recorded
    ≡ union world.adapter.causes.recorded (causes_by_step kind answer world.adapter)
step_records TxTake Took world = refl
step_records TxTake Fault world = none world.adapter.causes.recorded
step_records TxTake _ world = none world.adapter.causes.recorded
step_records TxPut (Put frame) world = refl
step_records TxPut _ world = none world.adapter.causes.recorded
step_records RxData Part world = refl
step_records RxData Moved world = refl
step_records RxData Fault world = none world.adapter.causes.recorded
step_records RxData _ world = none world.adapter.causes.recorded
step_records RxDone Done world = refl
step_records RxDone _ world = none world.adapter.causes.recorded
step_records EepromTick answer world = none world.adapter.causes.recorded
step_records PhyTick answer world = told-records (told world.adapter.mdic world.adapter.phy) world.adapter

arrival-records : (fate : Fate) (frame : List ℕ) (a : AdapterState)
    → (after_arrive fate frame a).causes.recorded ≡ union a.causes.recorded (causes_by_arrival fate)
arrival-records Missed frame a = refl
arrival-records Stored frame a = none a.causes.recorded
arrival-records _ frame a = none a.causes.recorded

pub event_records : (event : Event) (world : World) → All LeavesCauses (past_of_event event).accesses
    → (world_after event world).adapter.causes.recorded ≡ union world.adapter.causes.recorded (causes_by event world)
event_records (Steps kind wire_free answer) world leaves = step_records kind answer world
event_records (Arrives frame fate) world leaves = arrival-records fate frame world.adapter
event_records (Accesses access) world leaves =
    access_leaves_causes access world (all-head LeavesCauses access [] leaves) ∙ none world.adapter.causes.recorded

told-mask : (tells : Option Ticked) (a : AdapterState) → (after_phy_told tells a).causes.mask ≡ a.causes.mask
told-mask None a = refl
told-mask (Some ticked) a = refl

step-mask : (kind : StepKind) (answer : FrameOutcome) (world : World)
    → (world_after_step kind answer world).adapter.causes.mask ≡ world.adapter.causes.mask
step-mask TxTake Took world = refl
step-mask TxTake Fault world = refl
step-mask TxTake _ world = refl
step-mask TxPut (Put frame) world = refl
step-mask TxPut _ world = refl
step-mask RxData Part world = refl
step-mask RxData Moved world = refl
step-mask RxData Fault world = refl
step-mask RxData _ world = refl
step-mask RxDone Done world = refl
step-mask RxDone _ world = refl
step-mask EepromTick answer world = refl
step-mask PhyTick answer world = told-mask (told world.adapter.mdic world.adapter.phy) world.adapter

arrival-mask : (fate : Fate) (frame : List ℕ) (a : AdapterState) → (after_arrive fate frame a).causes.mask ≡ a.causes.mask
arrival-mask Missed frame a = refl
arrival-mask Stored frame a = refl
arrival-mask _ frame a = refl

pub event_leaves_mask : (event : Event) (world : World) → All LeavesMask (past_of_event event).accesses
    → (world_after event world).adapter.causes.mask ≡ world.adapter.causes.mask
event_leaves_mask (Steps kind wire_free answer) world leaves = step-mask kind answer world
event_leaves_mask (Arrives frame fate) world leaves = arrival-mask fate frame world.adapter
event_leaves_mask (Accesses access) world leaves = access_leaves_mask access world (all-head LeavesMask access [] leaves)

-- The recorded causes and the mask after a trail.

pub causes_are_those_of_steps : CausesAreThoseOfSteps
causes_are_those_of_steps [] a b leaves trail = ap (λ (w : World). w.adapter.causes.recorded) trail ∙ none a.adapter.causes.recorded
causes_are_those_of_steps (event ∷ later) a b leaves trail =
    let first = event_records event a (all-left LeavesCauses (past_of_event event).accesses (past_of later).accesses leaves) in
    let behind = all-right LeavesCauses (past_of_event event).accesses (past_of later).accesses leaves in
    let rest = causes_are_those_of_steps later (world_after event a) b behind trail.1 in
    rest
    ∙ ap (λ (n : ℕ). union n (causes_in later (world_after event a))) first
    ∙ union-assoc a.adapter.causes.recorded (causes_by event a) (causes_in later (world_after event a))

pub masks_stay : MasksStay
masks_stay [] a b leaves trail = ap (λ (w : World). w.adapter.causes.mask) trail
masks_stay (event ∷ later) a b leaves trail =
    let behind = all-right LeavesMask (past_of_event event).accesses (past_of later).accesses leaves in
    masks_stay later (world_after event a) b behind trail.1
    ∙ event_leaves_mask event a (all-left LeavesMask (past_of_event event).accesses (past_of later).accesses leaves)

-- Causes that were recorded remain recorded.

pub cause_stays : (later : List Event) (a b : World) (place : ℕ) → All LeavesCauses (past_of later).accesses → Trail later a b
    → HasBit a.adapter.causes.recorded place → HasBit b.adapter.causes.recorded place
cause_stays later a b place leaves trail set =
    subst (λ (n : ℕ). HasBit n place) (sym (causes_are_those_of_steps later a b leaves trail))
    ((HasBit-union a.adapter.causes.recorded (causes_in later a) place).1 (inl set))

pub first_is_recorded : (event : Event) (later : List Event) (a b : World) (place causes : ℕ)
    → All LeavesCauses (past_of later).accesses → Trail (event ∷ later) a b
    → (world_after event a).adapter.causes.recorded ≡ union a.adapter.causes.recorded causes → HasBit causes place
    → HasBit b.adapter.causes.recorded place
first_is_recorded event later a b place causes leaves trail records set =
    cause_stays later (world_after event a) b place leaves trail.1
    (subst (λ (n : ℕ). HasBit n place) (sym records) ((HasBit-union a.adapter.causes.recorded causes place).1 (inr set)))

chosen : (test : Bool) (cause place : ℕ) → HasBit cause place → test ≡ true → HasBit (cond test cause 0) place
chosen test cause place set is = subst (λ (t : Bool). HasBit (cond t cause 0) place) (sym is) set

putting-asks : (buffer : List Queued) (frame : List ℕ) → IsOldest buffer frame → IfFront buffer (λ queued. queued.rs ≡ true)
    → HasBit (causes_of_putting buffer) 0
putting-asks [] frame oldest asks = absurd oldest
putting-asks (queued ∷ later) frame oldest asks = chosen queued.rs 0x1 0 refl asks

taking-empties : (ring : RingRegisters) → (moved_on ring).head ≡ ring.tail → HasBit (causes_of_taking ring) 1
taking-empties ring last = chosen ((moved_on ring).head == ring.tail) 0x2 1 refl (eq-eqb _ _ last)

tick-tells : (tells : Option Ticked) (ticked : Ticked) (place : ℕ) → tells ≡ Some ticked → HasBit (causes_told ticked) place
    → HasBit (causes_by_tick tells) place
tick-tells tells ticked place is set = subst (λ (t : Option Ticked). HasBit (causes_by_tick t) place) (sym is) set

link-is-told : (ticked : Ticked) → ticked.link_changed ≡ true → HasBit (causes_told ticked) 2
link-is-told ticked is =
    (HasBit-union (cond ticked.link_changed 0x4 0) (cond ticked.access_complete 0x200 0) 2).1
    (inl (chosen ticked.link_changed 0x4 2 refl is))

end-is-told : (ticked : Ticked) → ticked.access_complete ≡ true → HasBit (causes_told ticked) 9
end-is-told ticked is =
    (HasBit-union (cond ticked.link_changed 0x4 0) (cond ticked.access_complete 0x200 0) 9).1
    (inr (chosen ticked.access_complete 0x200 9 refl is))

tick-is-recorded : (wire_free : Bool) (answer : FrameOutcome) (later : List Event) (a b : World) (place : ℕ) (ticked : Ticked)
    → All LeavesCauses (past_of later).accesses → Trail (Steps PhyTick wire_free answer ∷ later) a b
    → told a.adapter.mdic a.adapter.phy ≡ Some ticked → HasBit (causes_told ticked) place → HasBit b.adapter.causes.recorded place
tick-is-recorded wire_free answer later a b place ticked leaves trail tells set =
    let found : Option Ticked = told a.adapter.mdic a.adapter.phy in
    first_is_recorded (Steps PhyTick wire_free answer) later a b place (causes_by_tick found) leaves trail
    (told-records found a.adapter) (tick-tells found ticked place tells set)

pub recorded_causes_stay : RecordedCausesStay
recorded_causes_stay later a b leaves = record {
  put = λ wire_free frame trail asks.
      first_is_recorded (Steps TxPut wire_free (Put frame)) later a b 0 (causes_of_putting a.adapter.transmitter.buffer) leaves trail refl
      (putting-asks a.adapter.transmitter.buffer frame trail.0.1.1 asks);
  taken = λ wire_free trail last.
      first_is_recorded (Steps TxTake wire_free Took) later a b 1 (causes_of_taking a.adapter.transmit_ring) leaves trail refl
      (taking-empties a.adapter.transmit_ring last);
  link = λ wire_free answer trail ticked tells is.
      tick-is-recorded wire_free answer later a b 2 ticked leaves trail tells (link-is-told ticked is);
  part = λ wire_free trail half.
      first_is_recorded (Steps RxData wire_free Part) later a b 4 (causes_of_moving a.adapter.receive_ring) leaves trail refl
      (chosen (is_half_offered (ring_of (moved_on a.adapter.receive_ring))) 0x10 4 refl half);
  moved = λ wire_free trail half.
      first_is_recorded (Steps RxData wire_free Moved) later a b 4 (causes_of_moving a.adapter.receive_ring) leaves trail refl
      (chosen (is_half_offered (ring_of (moved_on a.adapter.receive_ring))) 0x10 4 refl half);
  missed = λ frame trail. first_is_recorded (Arrives frame Missed) later a b 6 0x40 leaves trail refl refl;
  done = λ wire_free trail ends.
      first_is_recorded (Steps RxDone wire_free Done) later a b 7 (causes_of_finishing a.adapter.receiver.work) leaves trail refl
      (chosen (is_ending a.adapter.receiver.work) 0x80 7 refl ends);
  management = λ wire_free answer trail ticked tells is.
      tick-is-recorded wire_free answer later a b 9 ticked leaves trail tells (end-is-told ticked is);
}
