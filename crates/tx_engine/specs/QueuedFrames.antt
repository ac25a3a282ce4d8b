-- The frames of the offered descriptors of a transmit ring.
use Rattle.std.specs.Prelude.{◌≤◌, ℕ, Bool, List, map}
use Rattle.dma_memory.specs.HostMemory.{LiesIn}
use Rattle.descriptors.specs.declared.ring.Ring.{Ring}
use Rattle.descriptors.specs.Ring.{address_of, offered_places}
use Rattle.tx_engine.specs.Fetching.{transmit_descriptor_at, frame_at}

-- The bytes that the descriptor at an address points to are inside memory, and their number is at most 1,518.
pub record CanBeCopied (memory : List ℕ) (descriptor : ℕ) : Type 0 where
  -- The bytes are in memory.
  pub lies : LiesIn memory (transmit_descriptor_at memory descriptor).address (transmit_descriptor_at memory descriptor).length
  -- There are at most 1,518 bytes.
  pub short : (transmit_descriptor_at memory descriptor).length ≤ 1518

-- The frames of the offered descriptors, in the order of their slots from the head on. If the flag is true, each frame is padded to 60
-- bytes.
abbrev pub queued_in : Bool → List ℕ → Ring → List (List ℕ)
queued_in pad memory ring = map (λ (slot : ℕ). frame_at pad memory (address_of ring slot)) (offered_places ring)
