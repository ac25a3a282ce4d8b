-- The frames that a host still has to send (our choice), and laws about them.
use Rattle.std.specs.Prelude.{◌≡◌, ◌++◌, ◌∷◌, [], Bool, ℕ, List, length, map, All}
use Rattle.dma_memory.specs.Areas.{Area, area_at, AreApart}
use Rattle.dma_memory.specs.HostMemory.{with_bytes, LiesIn}
use Rattle.descriptors.specs.declared.ring.Ring.{Ring}
use Rattle.descriptors.specs.Ring.{HasValidIndices, next_of, address_of, offered_places}
use Rattle.tx_engine.specs.Transmitter.{Queued}
use Rattle.tx_engine.specs.Fetching.{transmit_descriptor_at, frame_at, fetched}

-- The frames in the transmit packet buffer, followed by the frames of the offered descriptors. If the adapter pads, the frames of
-- descriptors are padded.
unfoldable pub to_send : List ℕ → Ring → Bool → List Queued → List (List ℕ)
to_send memory ring pad buffer = map (λ (queued : Queued). queued.frame) buffer
    ++ map (λ (slot : ℕ). frame_at pad memory (address_of ring slot)) (offered_places ring)

-- An area is apart from the first ten bytes of the descriptor at an address (the address and the length of its frame), and
-- from the frame.
pub record IsAwayFrom (memory : List ℕ) (area : Area) (address : ℕ) : Type 0 where
  -- The area doesn't overlap the address and the length in the descriptor, its first ten bytes.
  pub fields : AreApart area (area_at address 10)
  -- The area doesn't overlap the frame.
  pub frame : AreApart area (area_at (transmit_descriptor_at memory address).address (transmit_descriptor_at memory address).length)

-- If head and tail are indices of different slots, a take step doesn't change the frames to be sent. The frame at the head moves from the
-- ring to the end of the buffer.
abbrev pub TakingMovesFrames : Type 0
TakingMovesFrames =
    (memory : List ℕ) (ring : Ring) (pad : Bool) (buffer : List Queued) → HasValidIndices ring → ¬ (ring.head ≡ ring.tail)
    → to_send memory (record ring { head = next_of ring ring.head }) pad (buffer ++ fetched pad memory (address_of ring ring.head) ∷ [])
    ≡ to_send memory ring pad buffer

-- The oldest frame in the packet buffer is the first of the frames to be sent. The others are the frames to be sent after this frame is
-- removed from the buffer.
abbrev pub PuttingTakesFront : Type 0
PuttingTakesFront =
    (memory : List ℕ) (ring : Ring) (pad : Bool) (queued : Queued) (buffer : List Queued)
    → to_send memory ring pad (queued ∷ buffer) ≡ queued.frame ∷ to_send memory ring pad buffer

-- A write inside memory doesn't change the frames to be sent, if it is apart from each offered descriptor and its frame (`IsAwayFrom`).
abbrev pub OtherBytesLeaveFrames : Type 0
OtherBytesLeaveFrames =
    (memory : List ℕ) (ring : Ring) (pad : Bool) (buffer : List Queued) (place : ℕ) (bytes : List ℕ)
    → LiesIn memory place (length bytes)
    → All (λ slot. IsAwayFrom memory (area_at place (length bytes)) (address_of ring slot)) (offered_places ring)
    → to_send (with_bytes memory place bytes) ring pad buffer ≡ to_send memory ring pad buffer

-- If the tail advances by one slot, the frame of the slot at the old tail is added at the end of the list. Head and tail must be indices of
-- slots, and the tail must not advance to the head.
abbrev pub OfferingAddsFrames : Type 0
OfferingAddsFrames =
    (memory : List ℕ) (ring : Ring) (pad : Bool) (buffer : List Queued) → HasValidIndices ring → ¬ (next_of ring ring.tail ≡ ring.head)
    → to_send memory (record ring { tail = next_of ring ring.tail }) pad buffer
    ≡ to_send memory ring pad buffer ++ frame_at pad memory (address_of ring ring.tail) ∷ []
