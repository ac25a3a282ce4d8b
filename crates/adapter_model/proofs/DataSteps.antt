-- The state of an adapter after a data step, by the answer of the receive engine.
use Rattle.std.proofs.Common.{◌≡◌, ◌↔◌, ℕ, Bool, true, false, List, refl, ap, if◌then◌else◌}
use Rattle.std.specs.Int.Bits.{or_zero_r}
use Rattle.registers.specs.Bits.{union}
use Rattle.registers.specs.Kept.{causes_of}
use Rattle.registers.specs.Places.{alone, rxdmt0}
use Rattle.rx_engine.specs.Moving.{IfMoved, IsMoved, IsPartMoved, engine_after_data, is_half_offered, memory_after_data, ring_after_data}
use Rattle.rx_engine.specs.Receiver.{Receiver}
use Rattle.rx_engine.specs.declared.data.Data.{Data}
use Rattle.rx_engine.specs.declared.data.Data.TheVariants.{Nothing, Part, Moved, Fault}
use Rattle.adapter_model.specs.DataOutcomes.{causes_of_data, outcome_of_data}
use Rattle.adapter_model.specs.Outcomes.{framed}
use Rattle.adapter_model.specs.Receiving.{CanMovePiece, DataAnswers, HasFrameAndDescriptor, after_data, is_last_piece, memory_after_data_step}
use Rattle.adapter_model.specs.Rings.{ring_of}
use Rattle.adapter_model.specs.State.{AdapterState}
use Rattle.adapter_model.specs.Transmitting.{moved_on}

half-causes : (low free : Bool) → low ≡ free → causes_of (if low then alone rxdmt0 else 0) ≡ (if free then alone rxdmt0 else 0)
half-causes true true same = refl
half-causes false false same = refl
half-causes true false same = cc
half-causes false true same = cc

pub none_recorded : (state : AdapterState)
    → record state { causes = record state.causes { recorded = union state.causes.recorded 0 } } ≡ state
none_recorded state =
    ap (λ (causes : ℕ). record state { causes = record state.causes { recorded = causes } }) (or_zero_r state.causes.recorded)

-- The adapter with this receive engine, after RDH has advanced and these causes are recorded.
abbrev with_piece : Receiver → ℕ → AdapterState → AdapterState
with_piece receiver causes state = record state {
  receiver = receiver;
  receive_ring = moved_on state.receive_ring;
  causes = record state.causes { recorded = union state.causes.recorded causes };
}

-- The adapter with the receive engine, RDH and the recorded causes that a data step with this answer results in.
abbrev pub left_by : Data → AdapterState → AdapterState
left_by answer state = record state {
  receiver = engine_after_data answer state.filter.rctl (ring_of state.receive_ring) state.receiver;
  receive_ring = record state.receive_ring { head = (ring_after_data answer (ring_of state.receive_ring)).head };
  causes = record state.causes { recorded = union state.causes.recorded (causes_of (causes_of_data answer)) };
}

left_by-piece : (low : Bool) (receiver : Receiver) (state : AdapterState) → low ≡ is_half_offered (ring_of (moved_on state.receive_ring))
    → with_piece receiver (causes_of (if low then alone rxdmt0 else 0)) state
    ≡ with_piece receiver (if is_half_offered (ring_of (moved_on state.receive_ring)) then alone rxdmt0 else 0) state
left_by-piece low receiver state half =
    ap (λ (causes : ℕ). with_piece receiver causes state) (half-causes low (is_half_offered (ring_of (moved_on state.receive_ring))) half)

pub left_by-state : (F : Type 0) (answer : Data) (state : AdapterState)
    → IfMoved answer (λ low. low ≡ is_half_offered (ring_after_data answer (ring_of state.receive_ring)))
    → left_by answer state ≡ after_data (framed {F = F} (outcome_of_data {F = F} answer) state) state
left_by-state F Nothing state half = none_recorded state
left_by-state F (Part low) state half =
    left_by-piece low (engine_after_data (Part low) state.filter.rctl (ring_of state.receive_ring) state.receiver) state half
left_by-state F (Moved low) state half =
    left_by-piece low (engine_after_data (Moved low) state.filter.rctl (ring_of state.receive_ring) state.receiver) state half
left_by-state F Fault state half =
    none_recorded (record state { receiver = engine_after_data Fault state.filter.rctl (ring_of state.receive_ring) state.receiver })

pub answered-data : (F : Type 0) (answer : Data) (memory : List ℕ) (state : AdapterState)
    → (answer ≡ Nothing) ↔ (¬ (HasFrameAndDescriptor state))
    → (answer ≡ Fault) ↔ (HasFrameAndDescriptor state × (¬ (CanMovePiece memory state)))
    → IsPartMoved answer ↔ (HasFrameAndDescriptor state × CanMovePiece memory state × (is_last_piece state ≡ false))
    → IsMoved answer ↔ (HasFrameAndDescriptor state × CanMovePiece memory state × (is_last_piece state ≡ true))
    → DataAnswers memory state (framed {F = F} (outcome_of_data {F = F} answer) state)
answered-data F Nothing memory state nothing fault part moved = nothing.0 refl
answered-data F (Part low) memory state nothing fault part moved = part.0 tt
answered-data F (Moved low) memory state nothing fault part moved = moved.0 tt
answered-data F Fault memory state nothing fault part moved = fault.0 refl

pub memory_by-data : (F : Type 0) (answer : Data) (memory : List ℕ) (state : AdapterState)
    → memory_after_data answer state.filter.rctl (ring_of state.receive_ring) state.receiver memory
    ≡ memory_after_data_step (framed {F = F} (outcome_of_data {F = F} answer) state) memory state
memory_by-data F Nothing memory state = refl
memory_by-data F (Part low) memory state = refl
memory_by-data F (Moved low) memory state = refl
memory_by-data F Fault memory state = refl
