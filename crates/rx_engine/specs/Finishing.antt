-- The done step of the receive engine ("3.2.3 Receive Descriptor Format").
use Rattle.std.specs.Prelude.{◌≡◌, ◌+◌, ◌++◌, [], ◌∷◌}
use Rattle.std.specs.Prelude.{ℕ, List, length, nat_le, Option, None, Some, Bool, true, false, if◌then◌else◌}
use Rattle.byteorder.specs.Endian.{little_bytes}
use Rattle.registers.specs.Bits.{HasBit, is_set, union}
use Rattle.registers.specs.Places.{alone}
use Rattle.dma_memory.specs.Areas.{area_at, descriptor_area, AreApart}
use Rattle.dma_memory.specs.HostMemory.{bytes_at, with_bytes, LiesIn}
use Rattle.descriptors.specs.RxStatus.{status_bits, dd, eop}
use Rattle.rx_engine.specs.Descriptors.{descriptor_at, named_address}
use Rattle.rx_engine.specs.Receiver.{Receiver}
use Rattle.rx_engine.specs.declared.engine.Work.{Work}

-- The status of a finished descriptor: DD, and EOP if the frame ends in this descriptor (3.2.3.1).
abbrev pub finished_status : Bool → ℕ
finished_status true = union (alone dd) (alone eop)
finished_status false = alone dd

-- Bytes 8 to 15 of a finished descriptor: the length in two bytes, the lower one first, checksum 0, the status, errors 0, special 0.
abbrev pub finished_bytes : ℕ → Bool → List ℕ
finished_bytes n ends = little_bytes 2 n ++ 0 ∷ 0 ∷ finished_status ends ∷ 0 ∷ 0 ∷ 0 ∷ []

-- The engine after a done step: no piece is in progress.
abbrev pub engine_after_done : Receiver → Receiver
engine_after_done engine = record engine { work = None }

-- Memory after a done step: bytes 8 to 15 of the descriptor of the piece in progress are written. If no piece is in progress, or memory
-- ends before the end of the descriptor, nothing is written.
abbrev pub memory_after_done : Option Work → List ℕ → List ℕ
memory_after_done None memory = memory
memory_after_done (Some work) memory =
    if nat_le (work.descriptor + 16) (length memory)
    then with_bytes memory (work.descriptor + 8) (finished_bytes work.length work.ends)
    else memory

-- The n bytes at the address in a descriptor are inside memory, and apart from this descriptor.
pub record StandsApart (memory : List ℕ) (descriptor n : ℕ) : Type 0 where
  -- The bytes are in memory.
  pub place : LiesIn memory (named_address memory descriptor) n
  -- The bytes don't overlap the descriptor.
  pub apart : AreApart (area_at (named_address memory descriptor) n) (descriptor_area descriptor)

-- The descriptor at an address is finished with a piece of a frame. DD is set, EOP shows whether the frame ends in the piece, and there is
-- no error. The area that the address and the length in the descriptor define contains the piece.
pub record IsFinished (memory : List ℕ) (descriptor : ℕ) (ends : Bool) (piece : List ℕ) : Type 0 where
  -- DD is set (3.2.3.1).
  pub done : HasBit (status_bits (descriptor_at memory descriptor).status) dd
  -- EOP is set if and only if the frame ends in the piece.
  pub ended : is_set (status_bits (descriptor_at memory descriptor).status) eop ≡ ends
  -- The errors byte is 0.
  pub has_no_errors : (descriptor_at memory descriptor).errors ≡ 0
  -- The length in the descriptor is the number of bytes of the piece.
  pub length : (descriptor_at memory descriptor).length ≡ length piece
  -- The bytes of this length at the address in the descriptor are the piece.
  pub bytes : bytes_at memory (named_address memory descriptor) (descriptor_at memory descriptor).length ≡ piece
