-- The frames that a host and its adapter hold, read from the bytes of memory and the indices of the rings (our choice).
use Rattle.std.specs.Prelude.{◌≤◌, ℕ, true, List, All, length, map}
pub use Rattle.rx_engine.specs.FinishedSlots.{named, piece_in}
use Rattle.rx_engine.specs.Held.{held, in_slots}
use Rattle.rx_engine.specs.Pieces.{Piece}
use Rattle.tx_engine.specs.ToSend.{to_send}
use Rattle.adapter_model.specs.Slots.{finished}
use Rattle.adapter_model.specs.World.{World, transmit_ring}

-- The pieces in the finished slots, oldest first.
abbrev pub finished_pieces : ℕ → World → List Piece
finished_pieces oldest world = map (piece_in world.memory) (finished oldest world)

-- The pieces in the finished slots, and then the piece in progress, if any.
abbrev pub pieces_in_slots : ℕ → World → List Piece
pieces_in_slots oldest world = in_slots world.memory (finished_pieces oldest world) world.adapter.receiver

-- The frames held: first those that end in finished slots or in the slot in progress, each with its pieces joined, then those in the
-- receive packet buffer, oldest first.
abbrev pub frames_held : ℕ → World → List (List ℕ)
frames_held oldest world = held world.memory (finished_pieces oldest world) world.adapter.receiver

-- The frames still to be sent: first those in the transmit packet buffer, then the frame of each offered transmit descriptor, padded to 60
-- bytes.
abbrev pub frames_to_send : World → List (List ℕ)
frames_to_send world = to_send world.memory (transmit_ring world) true world.adapter.transmitter.buffer

-- Each frame has at most this number of bytes.
abbrev pub AreWithin : ℕ → List (List ℕ) → Type 0
AreWithin size frames = All (λ frame. length frame ≤ size) frames
