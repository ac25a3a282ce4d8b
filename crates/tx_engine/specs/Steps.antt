-- The states after each of the two steps of the transmit engine ("3.3 Packet Transmission" of Intel's manual; that the report waits until
-- the frame is on the wire is our choice).
use Rattle.std.specs.Prelude.{◌≡◌, ◌+◌, ◌++◌, ◌∷◌, [], ◌&&◌, if◌then◌else◌, nat_lt, Bool, ℕ, List, length, slice_index}
use Rattle.dma_memory.specs.HostMemory.{with_bytes}
use Rattle.descriptors.specs.declared.ring.Ring.{Ring}
use Rattle.descriptors.specs.Ring.{next_of, address_of}
use Rattle.descriptors.specs.TxFields.{tx_dd}
use Rattle.registers.specs.Places.{alone}
use Rattle.tx_engine.specs.Transmitter.{Queued, Transmitter}
use Rattle.tx_engine.specs.Fetching.{pads, fetched}
use Rattle.tx_engine.specs.declared.answers.Take.{Take}
use Rattle.tx_engine.specs.declared.answers.Take.TheVariants as takes
use Rattle.tx_engine.specs.declared.answers.Put.{Put}
use Rattle.tx_engine.specs.declared.answers.Put.TheVariants as puts

-- If the answer is `Took`, the fact is true for its `emptied`.
abbrev pub IfTook : Take → (Bool → Type 0) → Type 0
IfTook (takes.Took emptied) P = P emptied
IfTook takes.Nothing P = Unit {0}
IfTook takes.Fault P = Unit {0}

-- If the answer is `Put`, the fact is true for its `reported`.
abbrev pub IfPut : Put → (Bool → Type 0) → Type 0
IfPut (puts.Put reported) P = P reported
IfPut puts.Nothing P = Unit {0}
IfPut puts.WireFull P = Unit {0}

-- The fact is true for the oldest frame of a buffer, if there is one.
abbrev pub IfFront : List Queued → (Queued → Type 0) → Type 0
IfFront [] P = Unit {0}
IfFront (queued ∷ buffer) P = P queued

-- A frame was taken: `moved` and `grown` are the ring and the engine after the step. The frame is the last one in the packet buffer, with
-- the address of its descriptor, and the head has advanced by one slot.
pub record Takes (control : ℕ) (memory : List ℕ) (ring moved : Ring) (engine grown : Transmitter) : Type 0 where
  -- The frame is at the end of the packet buffer.
  pub buffer : grown ≡ record engine { buffer = engine.buffer ++ fetched (pads control) memory (address_of ring ring.head) ∷ [] }
  -- The head is now the next slot.
  pub head : moved ≡ record ring { head = next_of ring ring.head }

-- The address of the status byte of a frame's descriptor: 12 bytes after the address at which the descriptor was read.
abbrev pub status_place : Queued → ℕ
status_place queued = queued.descriptor + 12

-- Memory after a frame is put onto the wire: if its descriptor asks for a report, the status byte has only DD set (3.3.3.2). If memory ends
-- before this byte, nothing is written.
abbrev pub written_back : List ℕ → Queued → List ℕ
written_back memory queued = if queued.rs && nat_lt (status_place queued) (length memory) then with_bytes memory (status_place queued)
    (alone tx_dd ∷ []) else memory

-- Two memories have the same size, and differ at most in the byte at the address `place`.
pub record DiffersAtMostAt (place : ℕ) (memory changed : List ℕ) : Type 0 where
  -- The number of bytes is the same.
  pub size : length changed ≡ length memory
  -- Every byte at another address is the same.
  pub others : (i : ℕ) → ¬ (i ≡ place) → slice_index changed i ≡ slice_index memory i
