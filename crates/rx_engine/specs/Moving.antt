-- The data step of the receive engine ("3.2.6 Receive Descriptor Queue Structure"; that it can fault is our choice).
use Rattle.std.specs.Prelude.{◌≢◌, ◌==◌, ◌+◌, ◌-◌, ◌*◌, ⊤}
use Rattle.std.specs.Prelude.{ℕ, List, length, take, drop, nat_le, Bool, true, false, Some, if◌then◌else◌}
use Rattle.registers.specs.Bits.{HasBit, field}
use Rattle.registers.specs.Places.{rctl_bsex, rctl_bsize, rctl_en}
use Rattle.registers.specs.ReceiveControl.{buffer_size_of}
use Rattle.dma_memory.specs.HostMemory.{with_bytes, LiesIn}
use Rattle.descriptors.specs.declared.ring.Ring.{Ring}
use Rattle.descriptors.specs.Ring.{HasValidIndices, address_of, count_of, distance_of, next_of}
use Rattle.rx_engine.specs.Descriptors.{named_address}
use Rattle.rx_engine.specs.Receiver.{Receiver, IsReady, oldest}
use Rattle.rx_engine.specs.declared.data.Data.{Data}
use Rattle.rx_engine.specs.declared.engine.Work.{Work}
use Rattle.rx_engine.specs.declared.data.Data.TheVariants.{Nothing, Part, Moved, Fault}

-- With this value of RCTL, a data step has a piece to move: RCTL.EN is set, the engine is ready, and a descriptor is offered.
pub record HasFrameToMove (control : ℕ) (ring : Ring) (engine : Receiver) : Type 0 where
  -- RCTL.EN is set (13.4.22).
  pub enabled : HasBit control rctl_en
  -- No fault has stopped the data step, no piece is in progress, and a frame is in the packet buffer.
  pub ready : IsReady engine
  -- At least one descriptor is offered: RDH and RDT differ.
  pub offered : ring.head ≢ ring.tail

-- In this value of RCTL, EN is set, and at least one descriptor is offered: RDH and RDT differ.
abbrev pub IsEnabledAndOffered : ℕ → Ring → Type 0
IsEnabledAndOffered control ring = HasBit control rctl_en × (ring.head ≢ ring.tail)

-- The size of a receive buffer in bytes, by BSIZE of this value of RCTL.
abbrev pub buffer_bytes : ℕ → ℕ
buffer_bytes control = buffer_size_of (field control rctl_bsize 2)

-- The number of bytes of the oldest frame that haven't been moved yet.
abbrev pub left_bytes : Receiver → ℕ
left_bytes engine = length (oldest engine.buffer) - engine.moved

-- The next piece of the oldest frame: the bytes that haven't been moved yet, at most a buffer's size.
abbrev pub next_piece : ℕ → Receiver → List ℕ
next_piece control engine = take (buffer_bytes control) (drop engine.moved (oldest engine.buffer))

-- Whether the next piece of the oldest frame is its last one: the rest of the frame fits into a buffer.
abbrev pub is_last : ℕ → Receiver → Bool
is_last control engine = nat_le (left_bytes engine) (buffer_bytes control)

-- With this value of RCTL, a piece of n bytes can be moved. Otherwise a data step that has a piece to move is a fault (our choice).
pub record CanMove (control : ℕ) (ring : Ring) (memory : List ℕ) (n : ℕ) : Type 0 where
  -- RDH and RDT are indices of descriptors in the ring.
  pub indices : HasValidIndices ring
  -- The descriptor at RDH is inside memory.
  pub descriptor : LiesIn memory (address_of ring ring.head) 16
  -- The first n bytes of the buffer that the descriptor points to are inside memory.
  pub place : LiesIn memory (named_address memory (address_of ring ring.head)) n
  -- RCTL.BSEX is 0.
  pub not_extended : ¬ (HasBit control rctl_bsex)

-- Whether exactly half of the ring's descriptors are offered (13.4.22, RDMTS 00).
abbrev pub is_half_offered : Ring → Bool
is_half_offered ring = 2 * distance_of ring ring.head ring.tail == count_of ring

-- The answer of a step that moved a piece: `Moved` if the frame ends in the piece, and `Part` otherwise.
abbrev pub moved_answer : (ends half : Bool) → Data
moved_answer true half = Moved half
moved_answer false half = Part half

-- The step moved a piece, and more pieces of its frame follow.
abbrev pub IsPartMoved : Data → Type 0
IsPartMoved Nothing = ⊥
IsPartMoved (Part half) = ⊤
IsPartMoved (Moved half) = ⊥
IsPartMoved Fault = ⊥

-- The step moved the last piece of a frame.
abbrev pub IsMoved : Data → Type 0
IsMoved Nothing = ⊥
IsMoved (Part half) = ⊥
IsMoved (Moved half) = ⊤
IsMoved Fault = ⊥

-- If the step moved a piece, the fact is true for its `half`: whether exactly half of the ring's descriptors are now offered.
abbrev pub IfMoved : Data → (Bool → Type 0) → Type 0
IfMoved Nothing fact = ⊤
IfMoved (Part half) fact = fact half
IfMoved (Moved half) fact = fact half
IfMoved Fault fact = ⊤

-- The next piece as the piece in progress, with the address of the descriptor at the head. The flag is whether the frame ends in the piece.
abbrev pub work_at : ℕ → Ring → Receiver → Bool → Work
work_at control ring engine ends =
    record { descriptor = address_of ring ring.head; length = length (next_piece control engine); ends = ends }

-- The engine after `work` has become the piece in progress. If the frame ends in the piece, the frame is removed from the packet buffer.
-- Otherwise the length of the piece is added to the number of moved bytes.
abbrev pub begun_with : Work → Receiver → Receiver
begun_with work engine = if work.ends then record engine { buffer = drop 1 engine.buffer; moved = 0; work = Some work }
    else record engine { moved = engine.moved + work.length; work = Some work }

-- The engine after a step with this answer. After `Part` or `Moved`, the piece is in progress. `Part` also adds its length to the number of
-- moved bytes. `Moved` also removes its frame from the packet buffer. After `Fault`, the data step is stopped. `Nothing` changes nothing.
abbrev pub engine_after_data : Data → ℕ → Ring → Receiver → Receiver
engine_after_data Nothing control ring engine = engine
engine_after_data (Part half) control ring engine = record engine {
  moved = engine.moved + length (next_piece control engine);
  work = Some (work_at control ring engine false);
}
engine_after_data (Moved half) control ring engine = record engine {
  buffer = drop 1 engine.buffer;
  moved = 0;
  work = Some (work_at control ring engine true);
}
engine_after_data Fault control ring engine = record engine { stopped = true }

-- The ring after a step with this answer: if a piece was moved, the head has advanced by one slot. Otherwise the ring doesn't change.
abbrev pub ring_after_data : Data → Ring → Ring
ring_after_data Nothing ring = ring
ring_after_data (Part half) ring = record ring { head = next_of ring ring.head }
ring_after_data (Moved half) ring = record ring { head = next_of ring ring.head }
ring_after_data Fault ring = ring

-- The memory after a step with this answer: a piece that was moved is in the buffer that the descriptor at the head points to. Otherwise
-- memory doesn't change.
abbrev pub memory_after_data : Data → ℕ → Ring → Receiver → List ℕ → List ℕ
memory_after_data Nothing control ring engine memory = memory
memory_after_data (Part half) control ring engine memory = with_bytes memory (named_address memory (address_of ring ring.head))
    (next_piece control engine)
memory_after_data (Moved half) control ring engine memory = with_bytes memory (named_address memory (address_of ring ring.head))
    (next_piece control engine)
memory_after_data Fault control ring engine memory = memory
