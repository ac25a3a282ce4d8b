-- The interrupt causes that each event of a trail records (13.4.17 "Interrupt Cause Read Register"), and when recorded causes and the mask
-- don't change otherwise.
use Rattle.std.specs.Prelude.{◌≡◌, ℕ, Bool, true, List, [], ◌∷◌, Option, Some, None, All, if◌then◌else◌}
use Rattle.mdic_phy.specs.declared.mdic.Ticked.{Ticked}
use Rattle.mdic_phy.specs.Mdic.{told}
use Rattle.registers.specs.Bits.{HasBit, union}
use Rattle.registers.specs.Places.{alone, lsc, mdac, rxdmt0, rxo, rxt0, txdw, txqe}
use Rattle.rx_engine.specs.Moving.{is_half_offered}
use Rattle.rx_engine.specs.declared.arrival.Fate.{Fate}
use Rattle.rx_engine.specs.declared.arrival.Fate.TheVariants.{Missed}
use Rattle.tx_engine.specs.Steps.{IfFront}
use Rattle.adapter_model.specs.Receiving.{causes_of_moving, is_ending}
use Rattle.adapter_model.specs.Rings.{ring_of}
use Rattle.adapter_model.specs.State.{AdapterState}
use Rattle.adapter_model.specs.Steps.{causes_told}
use Rattle.adapter_model.specs.Transmitting.{causes_of_putting, causes_of_taking, moved_on}
use Rattle.adapter_model.specs.World.{World}
use Rattle.adapter_model.specs.declared.step.StepKind.{StepKind}
use Rattle.adapter_model.specs.declared.step.StepKind.TheVariants.{TxTake, TxPut, RxData, RxDone, PhyTick}
use Rattle.adapter_model.specs.Outcomes.{FrameOutcome}
use Rattle.adapter_model.specs.declared.outcome.Outcome.TheVariants.{Took, Put, Part, Moved, Done}
use Rattle.bus.specs.Accesses.{LeavesCauses, LeavesMask}
use Rattle.bus.specs.Trails.{Trail, past_of, world_after}
use Rattle.bus.specs.declared.event.Event.{Event}
use Rattle.bus.specs.declared.event.Event.TheVariants.{Accesses, Arrives, Steps}

-- The causes, LSC and MDAC, that a tick of the PHY with this result records.
abbrev pub causes_by_tick : Option Ticked → ℕ
causes_by_tick (Some ticked) = causes_told ticked
causes_by_tick None = 0

-- The causes that a step of this adapter with this outcome records.
abbrev pub causes_by_step : StepKind → FrameOutcome → AdapterState → ℕ
causes_by_step TxTake Took adapter = causes_of_taking adapter.transmit_ring
causes_by_step TxPut (Put frame) adapter = causes_of_putting adapter.transmitter.buffer
causes_by_step RxData Part adapter = causes_of_moving adapter.receive_ring
causes_by_step RxData Moved adapter = causes_of_moving adapter.receive_ring
causes_by_step RxDone Done adapter = if is_ending adapter.receiver.work then alone rxt0 else 0
causes_by_step PhyTick answer adapter = causes_by_tick (told adapter.mdic adapter.phy)
causes_by_step kind answer adapter = 0

-- The causes that an arrival records: RXO, bit 6, if the frame is missed.
abbrev pub causes_by_arrival : Fate → ℕ
causes_by_arrival Missed = alone rxo
causes_by_arrival fate = 0

-- The causes that an event in this world records. An access counts as recording no cause.
abbrev pub causes_by : Event → World → ℕ
causes_by (Steps kind wire_free answer) world = causes_by_step kind answer world.adapter
causes_by (Arrives frame fate) world = causes_by_arrival fate
causes_by (Accesses access) world = 0

-- The causes that all events of a trail from this world record.
abbrev pub causes_in : List Event → World → ℕ
causes_in [] world = 0
causes_in (event ∷ later) world = union (causes_by event world) (causes_in later (world_after event world))

-- At the end of a trail, the recorded causes are those recorded before it and those that its events recorded, if no access changes causes.
abbrev pub CausesAreThoseOfSteps : Type 0
CausesAreThoseOfSteps =
    (events : List Event) (a b : World) → All LeavesCauses (past_of events).accesses → Trail events a b
    → b.adapter.causes.recorded ≡ union a.adapter.causes.recorded (causes_in events a)

-- The mask doesn't change if no access writes IMS or IMC or resets the adapter.
abbrev pub MasksStay : Type 0
MasksStay =
    (events : List Event) (a b : World) → All LeavesMask (past_of events).accesses → Trail events a b
    → b.adapter.causes.mask ≡ a.adapter.causes.mask

-- The causes that the first event of a trail from a to b records are still recorded at its end.
pub record IsRecorded (later : List Event) (a b : World) : Type 0 where
  -- TXDW, bit 0: a frame was put whose descriptor asks for a report.
  pub put : (wire_free : Bool) (frame : List ℕ) → Trail (Steps TxPut wire_free (Put frame) ∷ later) a b
      → IfFront a.adapter.transmitter.buffer (λ queued. queued.rs ≡ true) → HasBit b.adapter.causes.recorded txdw
  -- TXQE, bit 1: the taken descriptor was the last one before TDT.
  pub taken : (wire_free : Bool) → Trail (Steps TxTake wire_free Took ∷ later) a b
      → (moved_on a.adapter.transmit_ring).head ≡ a.adapter.transmit_ring.tail → HasBit b.adapter.causes.recorded txqe
  -- LSC, bit 2: a tick of the PHY changed the link to up.
  pub link : (wire_free : Bool) (answer : FrameOutcome) → Trail (Steps PhyTick wire_free answer ∷ later) a b
      → (ticked : Ticked) → told a.adapter.mdic a.adapter.phy ≡ Some ticked → ticked.link_changed ≡ true
      → HasBit b.adapter.causes.recorded lsc
  -- RXDMT0, bit 4: half of the ring's descriptors were offered after a piece of a frame was moved.
  pub part : (wire_free : Bool) → Trail (Steps RxData wire_free Part ∷ later) a b
      → is_half_offered (ring_of (moved_on a.adapter.receive_ring)) ≡ true → HasBit b.adapter.causes.recorded rxdmt0
  pub moved : (wire_free : Bool) → Trail (Steps RxData wire_free Moved ∷ later) a b
      → is_half_offered (ring_of (moved_on a.adapter.receive_ring)) ≡ true → HasBit b.adapter.causes.recorded rxdmt0
  -- RXO, bit 6: a frame was missed.
  pub missed : (frame : List ℕ) → Trail (Arrives frame Missed ∷ later) a b → HasBit b.adapter.causes.recorded rxo
  -- RXT0, bit 7: a done step finished the last piece of a frame.
  pub done : (wire_free : Bool) → Trail (Steps RxDone wire_free Done ∷ later) a b → is_ending a.adapter.receiver.work ≡ true
      → HasBit b.adapter.causes.recorded rxt0
  -- MDAC, bit 9: a command of MDIC with bit I set ended at a tick of the PHY.
  pub management : (wire_free : Bool) (answer : FrameOutcome) → Trail (Steps PhyTick wire_free answer ∷ later) a b
      → (ticked : Ticked) → told a.adapter.mdic a.adapter.phy ≡ Some ticked → ticked.access_complete ≡ true
      → HasBit b.adapter.causes.recorded mdac

-- The causes that the first event of a trail records are still recorded at its end, if no access after this event changes causes.
abbrev pub RecordedCausesStay : Type 0
RecordedCausesStay = (later : List Event) (a b : World) → All LeavesCauses (past_of later).accesses → IsRecorded later a b
