-- What the transmit engine reads from memory, and under which conditions ("3.3 Packet Transmission" of Intel's manual).
use Rattle.std.specs.Prelude.{◌≡◌, ◌<◌, ◌≤◌, ◌⊎◌, if◌then◌else◌, Bool, IsTrue, ℕ, List, length}
use Rattle.dma_memory.specs.HostMemory.{bytes_at, LiesIn}
use Rattle.registers.specs.Bits.{HasBit, is_set}
use Rattle.registers.specs.Places.{tctl_en, tctl_psp}
use Rattle.descriptors.specs.declared.ring.Ring.{Ring}
use Rattle.descriptors.specs.declared.tx_desc.TxDesc.{TxDesc}
use Rattle.descriptors.specs.Frames.{longest_frame, padded}
use Rattle.descriptors.specs.Ring.{HasValidIndices, address_of}
use Rattle.descriptors.specs.TxDesc.{tx_desc_of}
use Rattle.descriptors.specs.TxFields.{command_bits, tx_dext, tx_eop, tx_rs}
use Rattle.tx_engine.specs.Transmitter.{Queued, Transmitter}

-- Whether this value of TCTL pads short packets: PSP is set ("13.4.33 Transmit Control Register").
abbrev pub pads : ℕ → Bool
pads control = is_set control tctl_psp

-- The transmit descriptor at an address.
abbrev pub transmit_descriptor_at : List ℕ → ℕ → TxDesc
transmit_descriptor_at memory address = tx_desc_of (bytes_at memory address 16)

-- The bytes that a descriptor points to, or fewer if memory ends earlier.
abbrev pub named_by : List ℕ → TxDesc → List ℕ
named_by memory desc = bytes_at memory desc.address desc.length

-- A frame as it is put onto the wire. If `pad` is true, the frame is followed by zeros up to 60 bytes.
abbrev pub as_sent : Bool → List ℕ → List ℕ
as_sent pad frame = if pad then padded frame else frame

-- The frame that the descriptor at an address points to, as it is put onto the wire.
abbrev pub frame_at : Bool → List ℕ → ℕ → List ℕ
frame_at pad memory address = as_sent pad (named_by memory (transmit_descriptor_at memory address))

-- The entry of the packet buffer that the engine makes from the descriptor at an address.
abbrev pub fetched : Bool → List ℕ → ℕ → Queued
fetched pad memory address = record {
  frame = frame_at pad memory address;
  descriptor = address;
  rs = is_set (command_bits (transmit_descriptor_at memory address).command) tx_rs;
}

-- The engine has nothing to take: TCTL.EN is 0, a fault has stopped the engine, its buffer contains four frames (our choice), or head
-- equals tail.
abbrev pub HasNoFrameToTake : ℕ → Transmitter → Ring → Type 0
HasNoFrameToTake control engine ring =
    (¬ (HasBit control tctl_en)) ⊎ (IsTrue engine.stopped ⊎ ((length engine.buffer ≡ 4) ⊎ (ring.head ≡ ring.tail)))

-- A descriptor that this adapter can transmit (our choice; by the manual a packet may span several descriptors). The descriptor contains
-- the end of its packet, has the legacy format, and points to 1 to 1,518 bytes inside memory.
pub record IsTransmittable (memory : List ℕ) (desc : TxDesc) : Type 0 where
  -- The frame ends in this descriptor: EOP is set.
  pub ends : HasBit (command_bits desc.command) tx_eop
  -- The descriptor has the legacy format: DEXT is clear.
  pub legacy : ¬ (HasBit (command_bits desc.command) tx_dext)
  -- The frame has at least one byte.
  pub least : 0 < desc.length
  -- The frame is at most as long as the longest legal frame.
  pub most : desc.length ≤ longest_frame
  -- The frame is inside memory.
  pub lies : LiesIn memory desc.address desc.length

-- The engine can take the frame at the head: head and tail are indices of slots. The descriptor at the head is inside memory, and can be
-- transmitted.
pub record IsFetchable (memory : List ℕ) (ring : Ring) : Type 0 where
  -- TDH and TDT are indices of descriptors in the ring.
  pub sound : HasValidIndices ring
  -- The descriptor at TDH is inside memory.
  pub lies : LiesIn memory (address_of ring ring.head) 16
  -- The descriptor at TDH can be transmitted.
  pub transmittable : IsTransmittable memory (transmit_descriptor_at memory (address_of ring ring.head))
