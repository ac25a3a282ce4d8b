-- The finished slots of a receive ring, from a slot on, their pieces, and whether the ring and the pieces are inside memory.
use Rattle.std.specs.Prelude.{◌*◌, ℕ, List, map, take_while}
use Rattle.dma_memory.specs.Areas.{Area, bytes_in}
use Rattle.dma_memory.specs.HostMemory.{LiesIn}
use Rattle.descriptors.specs.declared.ring.Ring.{Ring}
use Rattle.descriptors.specs.Ring.{address_of, count_of, distance_of, slots_from}
use Rattle.descriptors.specs.RxStatus.{eop, status_bits}
use Rattle.registers.specs.Bits.{is_set}
use Rattle.rx_engine.specs.Descriptors.{descriptor_at}
use Rattle.rx_engine.specs.Held.{piece_of}
use Rattle.rx_engine.specs.Pieces.{Piece}
use Rattle.rx_engine.specs.Slots.{done_slots, is_done}

-- The area that the address and the length of the descriptor at an address define.
abbrev pub named : List ℕ → ℕ → Area
named memory descriptor = record {
  address = (descriptor_at memory descriptor).address;
  size = (descriptor_at memory descriptor).length;
}

-- The piece that the finished descriptor at this address defines: the bytes of its area. The piece is the last one of its frame if and only
-- if EOP is set (3.2.3.1).
abbrev pub piece_in : List ℕ → ℕ → Piece
piece_in memory descriptor =
    piece_of (is_set (status_bits (descriptor_at memory descriptor).status) eop) (bytes_in memory (named memory descriptor))

-- The descriptor addresses of `left` slots from slot `place` on, up to, but not including, the first slot that isn't done.
abbrev pub done_from : List ℕ → Ring → ℕ → ℕ → List ℕ
done_from memory ring place left = take_while (is_done memory) (map (address_of ring) (slots_from (count_of ring) place left))

-- The pieces in the slots of `done_from`.
abbrev pub pieces_from : List ℕ → Ring → ℕ → ℕ → List Piece
pieces_from memory ring place left = map (piece_in memory) (done_from memory ring place left)

-- The number of outstanding slots: the slots from `oldest` up to, but not including, the tail.
abbrev pub outstanding_count : Ring → ℕ → ℕ
outstanding_count ring oldest = distance_of ring oldest ring.tail

-- The pieces in the finished slots, from slot `oldest` on.
abbrev pub finished_in : List ℕ → Ring → ℕ → List Piece
finished_in memory ring oldest = map (piece_in memory) (done_slots memory ring oldest)

-- The area that the address and the length of a descriptor define is inside memory.
abbrev pub NamesMemory : List ℕ → ℕ → Type 0
NamesMemory memory descriptor = LiesIn memory (named memory descriptor).address (named memory descriptor).size

-- The whole ring is inside memory.
abbrev pub LiesWhole : List ℕ → Ring → Type 0
LiesWhole memory ring = LiesIn memory ring.base (16 * count_of ring)
