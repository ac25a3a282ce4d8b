-- Outcomes of steps and deliveries, with the frame that was put or delivered (our choice).
use Rattle.std.specs.Prelude.{ℕ, List, [], ◌∷◌}
use Rattle.tx_engine.specs.Transmitter.{Queued}
use Rattle.adapter_model.specs.State.{AdapterState}
use Rattle.adapter_model.specs.declared.outcome.Outcome.{Outcome}
use Rattle.adapter_model.specs.declared.outcome.Outcome.TheVariants.{Took, Put, WireFull, Part, Moved, Done, Delivered, Ticked, Nothing, Fault}

-- An outcome that contains the bytes of its frame, if it is `Put` or `Delivered`.
abbrev pub FrameOutcome : Type 0
FrameOutcome = Outcome (List ℕ)

-- The oldest frame of a packet buffer, or no bytes if the buffer is empty.
abbrev pub oldest_queued : List Queued → List ℕ
oldest_queued [] = []
oldest_queued (queued ∷ later) = queued.frame

-- The same outcome, but with this frame in place of the frame in `Put` and `Delivered`.
abbrev pub with_frame : {F G : Type 0} → G → Outcome F → Outcome G
with_frame frame Took = Took
with_frame frame (Put old) = Put frame
with_frame frame WireFull = WireFull
with_frame frame Part = Part
with_frame frame Moved = Moved
with_frame frame Done = Done
with_frame frame (Delivered old fate) = Delivered frame fate
with_frame frame Ticked = Ticked
with_frame frame Nothing = Nothing
with_frame frame Fault = Fault

-- The same outcome, but with the oldest frame of this state's transmit packet buffer in `Put` and `Delivered`. A step from this state that
-- puts a frame puts the oldest one.
abbrev pub framed : {F : Type 0} → Outcome F → AdapterState → FrameOutcome
framed outcome state = with_frame (oldest_queued state.transmitter.buffer) outcome

-- The frame that a step put, as a list: empty if the outcome isn't `Put`.
abbrev pub put_by : FrameOutcome → List (List ℕ)
put_by (Put frame) = frame ∷ []
put_by outcome = []
