-- The transmit engine of an adapter in contracts (our choice).
use Rattle.std.specs.Prelude.{ℕ, Bool, false, List, []}

-- A frame in the transmit packet buffer.
pub record Queued : Type 0 where
  -- The bytes of the frame, as they are put onto the wire.
  pub frame : List ℕ
  -- The address at which the frame's descriptor was read.
  pub descriptor : ℕ
  -- Whether the descriptor asks for a report (RS).
  pub rs : Bool

-- The state of the transmit engine.
pub record Transmitter : Type 0 where
  -- The transmit packet buffer, the oldest frame first.
  pub buffer : List Queued
  -- Whether a fault has stopped the step that takes frames.
  pub stopped : Bool

-- An engine with an empty buffer, which no fault has stopped.
abbrev pub new_transmitter : Transmitter
new_transmitter = record { buffer = []; stopped = false }
