-- An adapter that receives into a host's memory, with the driver that empties its ring: eight descriptors, each with its buffer. (Intel's
-- manual, "3.2.6 Receive Descriptor Queue Structure"; the ring's size and places are our choice)
use Rattle.std.specs.Prelude.{◌≡◌, ◌<◌, ◌+◌, ◌*◌, ◌%◌, ℕ, List, length, true}
use Rattle.registers.specs.Bits.{HasBit, field}
use Rattle.dma_memory.specs.HostMemory.{bytes_at}
use Rattle.descriptors.specs.declared.rx_desc.RxDesc.{RxDesc}
use Rattle.descriptors.specs.RxStatus.{status_of}
use Rattle.registers.specs.Places.{rctl_bsex, rctl_bsize, rctl_en}
use Rattle.rx_engine.specs.Descriptors.{descriptor_at, named_address}
use Rattle.rx_engine.specs.Receiver.{new_receiver}
use Rattle.rx_engine.specs.Finishing.{IsFinished}
use Rattle.adapter.specs.model_types.ring.RingRegisters.{RingRegisters}
use Rattle.adapter.specs.State.{AdapterState}

-- the number of descriptors of the ring
abbrev pub slots : ℕ
slots = 8

-- the address of a slot's buffer of 2,048 bytes; the buffer of slot 0 follows both rings and the transmit buffers
abbrev pub lane_buffer : ℕ → ℕ
lane_buffer slot = 18432 + 2048 * slot

-- a descriptor as a driver stores it before it offers the slot: it points to the buffer at address `buffer`, and its status is 0
abbrev pub offered_descriptor : ℕ → RxDesc
offered_descriptor buffer = record { address = buffer; length = 0; checksum = 0; status = status_of 0; errors = 0; special = 0 }

-- Each descriptor points to the buffer of its slot.
abbrev pub NameBuffers : List ℕ → Type 0
NameBuffers memory = (slot : ℕ) → slot < slots → named_address memory (16 * slot) ≡ lane_buffer slot

-- RDBAL, RDBAH, RDLEN, RDH and RDT: the ring of 8 descriptors is at address 0, and its tail is the slot before `slot`. So the adapter owns
-- the slots from the head up to, but not including, the tail.
abbrev pub ring_at : ℕ → ℕ → RingRegisters
ring_at head slot = record { base_low = 0; base_high = 0; length_bytes = 16 * slots; head = head; tail = (slot + 7) % slots }

-- the adapter, the host's memory, and the slot that the driver reads next
pub record LaneState : Type 0 where
  pub adapter : AdapterState
  pub memory : List ℕ
  pub slot : ℕ

-- RCTL has EN set, and selects buffers of 2,048 bytes (13.4.22)
pub record IsReceiving (control : ℕ) : Type 0 where
  pub enabled : HasBit control rctl_en
  pub not_extended : ¬ (HasBit control rctl_bsex)
  pub size : field control rctl_bsize 2 ≡ 0

-- The invariant of a lane: its adapter receives, and its receive packet buffer has 48 KB and is empty. The driver's slot is below 8, and
-- the ring's tail is the slot before the driver's. Memory has 34,816 bytes, and each descriptor points to its slot's buffer.
pub record IsLane (lane : LaneState) : Type 0 where
  pub receiving : IsReceiving lane.adapter.filter.rctl
  pub room : lane.adapter.receive_kilobytes ≡ 48
  pub idle : lane.adapter.receiver ≡ new_receiver
  pub slot : lane.slot < slots
  pub ring : lane.adapter.receive_ring ≡ ring_at lane.adapter.receive_ring.head lane.slot
  pub size : length lane.memory ≡ 34816
  pub buffers : NameBuffers lane.memory

-- The lane waits for a frame: the adapter's head is at the driver's slot, so the next stored frame is for this slot.
abbrev pub IsWaiting : LaneState → Type 0
IsWaiting lane = lane.adapter.receive_ring.head ≡ lane.slot

-- the descriptor at the driver's slot
abbrev pub slot_desc : LaneState → RxDesc
slot_desc lane = descriptor_at lane.memory (16 * lane.slot)

-- the bytes at the address of the descriptor at the driver's slot, of the descriptor's length
abbrev pub slot_bytes : LaneState → List ℕ
slot_bytes lane = bytes_at lane.memory (slot_desc lane).address (slot_desc lane).length

-- The adapter has finished the descriptor at the driver's slot, with a complete frame, and its head is at the next slot.
pub record HasFrame (lane : LaneState) (frame : List ℕ) : Type 0 where
  pub head : lane.adapter.receive_ring.head ≡ (lane.slot + 1) % slots
  pub finished : IsFinished lane.memory (16 * lane.slot) true frame
