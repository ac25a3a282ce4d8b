-- The slots of a descriptor ring that the adapter owns, and those from a driver's oldest slot on ("3.2.6 Receive Descriptor Queue
-- Structure", "3.4 Transmit Descriptor Ring Structure"). A slot is identified by the address of its descriptor.
use Rattle.std.specs.Prelude.{ℕ, Bool, List, map, slice_index, take_while}
use Rattle.dma_memory.specs.HostMemory.{bytes_at}
use Rattle.registers.specs.Bits.{is_set}
use Rattle.descriptors.specs.declared.ring.Ring.{Ring}
use Rattle.descriptors.specs.Ring.{address_of, offered_places}
use Rattle.descriptors.specs.RxStatus.{dd}

-- The slots that the adapter owns: from head up to, but not including, tail.
abbrev pub offered : Ring → List ℕ
offered ring = map (address_of ring) (offered_places ring)

-- The slots from slot `oldest`, the driver's oldest one, up to, but not including, tail.
abbrev pub outstanding : Ring → ℕ → List ℕ
outstanding ring oldest = offered (record ring { head = oldest })

-- Whether the descriptor at an address is done: DD, bit 0 of its byte 12, is set (3.2.3.1, 3.3.3.2).
abbrev pub is_done : List ℕ → ℕ → Bool
is_done memory descriptor = is_set (slice_index (bytes_at memory descriptor 16) 12) dd

-- The outstanding slots before the first one that isn't done, the oldest first. If all are done: all outstanding slots.
abbrev pub done_slots : List ℕ → Ring → ℕ → List ℕ
done_slots memory ring oldest = take_while (is_done memory) (outstanding ring oldest)
