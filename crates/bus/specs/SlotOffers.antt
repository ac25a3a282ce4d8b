-- A driver offers its next slot of a ring.
use Rattle.std.specs.Prelude.{◌≡◌, ◌≢◌, ◌<◌, ◌∷◌, [], ◌++◌, ℕ, false, true, All}
use Rattle.dma_memory.specs.Areas.{AreApart, Area}
use Rattle.dma_memory.specs.HostMemory.{LiesIn}
use Rattle.registers.specs.Bits.{HasBit}
use Rattle.descriptors.specs.Ring.{address_of, count_of, next_of}
use Rattle.registers.specs.Places.{rctl_en, tctl_psp}
use Rattle.tx_engine.specs.Fetching.{fetched, frame_at}
use Rattle.adapter_model.specs.HostAreas.{areas, buffer_of, data_of, IsForeign, reported_half, status_byte}
use Rattle.adapter_model.specs.Slots.{finished, is_done, outstanding, written_back_slots}
use Rattle.adapter_model.specs.HostFrames.{finished_pieces, frames_held, frames_to_send}
use Rattle.adapter_model.specs.Conditions.{AreCut, FitBuffers, Reports, Sound}
use Rattle.bus.specs.DriversStores.{SameFrames}
use Rattle.adapter_model.specs.Running.{CanTransmit, GoOn}
use Rattle.adapter_model.specs.World.{receive_ring, transmit_ring, World}
use Rattle.adapter_model.specs.Rings.{ring_of}
use Rattle.adapter_model.specs.declared.ring.RingRegisters.{RingRegisters}

-- A driver offers its next receive slot: it advances RDT by one ("3.2.6 Receive Descriptor Queue Structure").

-- The world in which RDT has advanced by one.
abbrev pub offering : World → World
offering world = record world {
  adapter = record world.adapter {
    receive_ring = record world.adapter.receive_ring { tail = next_of (receive_ring world) world.adapter.receive_ring.tail };
  };
}

-- A ring has room to offer the slot at its tail.
pub record HasRoom (oldest : ℕ) (registers : RingRegisters) : Type 0 where
  -- The driver's oldest slot, head and tail are slots of the ring.
  pub oldest_slot : oldest < count_of (ring_of registers)
  pub head_slot : registers.head < count_of (ring_of registers)
  pub tail_slot : registers.tail < count_of (ring_of registers)
  -- The slot after the tail isn't the oldest slot.
  pub room : next_of (ring_of registers) registers.tail ≢ oldest

-- The slot at RDT can be offered. The conditions name the slot's buffer, of the size that RCTL.BSIZE selects, only while RCTL.EN is set.
pub record CanOffer (oldest : ℕ) (world : World) : Type 0 where
  pub ring : HasRoom oldest world.adapter.receive_ring
  -- The slot's descriptor isn't done.
  pub fresh : is_done world.memory (address_of (receive_ring world) world.adapter.receive_ring.tail) ≡ false
  -- If RCTL.EN is set, the buffer is in memory. All buffers have the size of `buffer_of world 0`.
  pub lies : HasBit world.adapter.filter.rctl rctl_en
      → LiesIn world.memory (buffer_of world (address_of (receive_ring world) world.adapter.receive_ring.tail)).address
      (buffer_of world 0).size
  -- If RCTL.EN is set, the buffer is apart from all areas that the conditions name.
  pub apart : HasBit world.adapter.filter.rctl rctl_en
      → All (λ area. AreApart area (buffer_of world (address_of (receive_ring world) world.adapter.receive_ring.tail)))
      (areas oldest world)

-- After the offer, the conditions hold again, the slot is the last outstanding one, and frames are the same. Engines that could run still
-- can run. An area that the adapter may not write remains such an area if it is apart from bytes 8 to 15 of the slot's descriptor. If
-- RCTL.EN is set, the area must also be apart from the slot's buffer.
pub record Offered (oldest_receive oldest_transmit : ℕ) (a b : World) : Type 0 where
  pub same : SameFrames oldest_receive oldest_transmit a b
  pub runs : GoOn a b
  pub last : outstanding (receive_ring b) oldest_receive
      ≡ outstanding (receive_ring a) oldest_receive ++ address_of (receive_ring a) a.adapter.receive_ring.tail ∷ []
  pub foreign :
      (area : Area) → IsForeign a area → AreApart area (reported_half (address_of (receive_ring a) a.adapter.receive_ring.tail))
      → (HasBit a.adapter.filter.rctl rctl_en → AreApart area (buffer_of a (address_of (receive_ring a) a.adapter.receive_ring.tail)))
      → IsForeign b area

-- If the conditions hold and the slot at RDT can be offered, `Offered` holds after RDT advances by one.
abbrev pub SlotsCanBeOffered : Type 0
SlotsCanBeOffered =
    (oldest_receive oldest_transmit : ℕ) (world : World) → Sound oldest_receive oldest_transmit world → CanOffer oldest_receive world
    → Offered oldest_receive oldest_transmit world (offering world)

-- A driver offers its next transmit slot: it advances TDT by one ("3.4 Transmit Descriptor Ring Structure").

-- The world in which TDT has advanced by one.
abbrev pub offering_frame : World → World
offering_frame world = record world {
  adapter = record world.adapter {
    transmit_ring = record world.adapter.transmit_ring { tail = next_of (transmit_ring world) world.adapter.transmit_ring.tail };
  };
}

-- The slot at TDT can be offered.
pub record CanSend (oldest_receive oldest_transmit : ℕ) (world : World) : Type 0 where
  pub ring : HasRoom oldest_transmit world.adapter.transmit_ring
  -- The slot's descriptor isn't done, and asks for a report.
  pub fresh : is_done world.memory (address_of (transmit_ring world) world.adapter.transmit_ring.tail) ≡ false
  pub reports : Reports (fetched true world.memory (address_of (transmit_ring world) world.adapter.transmit_ring.tail))
  -- TCTL.PSP is set.
  pub pads : HasBit world.adapter.transmit_control tctl_psp
  -- The slot's data is in memory, apart from all areas that the conditions name.
  pub lies :
      LiesIn world.memory (data_of world.memory (address_of (transmit_ring world) world.adapter.transmit_ring.tail)).address
      (data_of world.memory (address_of (transmit_ring world) world.adapter.transmit_ring.tail)).size
  pub apart : All (λ area. AreApart area (data_of world.memory (address_of (transmit_ring world) world.adapter.transmit_ring.tail)))
      (areas oldest_receive world)

-- Received frames, finished slots and their pieces are the same.
pub record SameReceived (oldest_receive : ℕ) (a b : World) : Type 0 where
  pub held : frames_held oldest_receive b ≡ frames_held oldest_receive a
  pub finished_same : finished oldest_receive b ≡ finished oldest_receive a
  pub pieces_same : finished_pieces oldest_receive b ≡ finished_pieces oldest_receive a
  -- If frames are cut into buffers of some size, they are still cut in this way. If pieces fit into such buffers, they still fit.
  pub whole : (size : ℕ) → AreCut size oldest_receive a → AreCut size oldest_receive b
  pub fits : (size : ℕ) → FitBuffers size oldest_receive a → FitBuffers size oldest_receive b

-- After the offer, the conditions hold again, with one more outstanding slot.
pub record OfferedFrame (oldest_receive oldest_transmit : ℕ) (a b : World) : Type 0 where
  pub sound : Sound oldest_receive oldest_transmit b
  -- The frame of the slot, padded, is the last frame to be sent.
  pub to_send : frames_to_send b ≡ frames_to_send a ++ frame_at true a.memory (address_of (transmit_ring a) a.adapter.transmit_ring.tail)
      ∷ []
  pub received : SameReceived oldest_receive a b
  pub written_same : written_back_slots oldest_transmit b ≡ written_back_slots oldest_transmit a
  -- The slot is the last outstanding slot.
  pub last : outstanding (transmit_ring b) oldest_transmit ≡ outstanding (transmit_ring a) oldest_transmit
      ++ address_of (transmit_ring a) a.adapter.transmit_ring.tail ∷ []
  -- If the descriptor can be transmitted, engines that could run still can run.
  pub runs : CanTransmit a.memory (address_of (transmit_ring a) a.adapter.transmit_ring.tail) → GoOn a b
  -- An area that the adapter may not write remains such an area, if it is apart from the slot's status byte.
  pub foreign : (area : Area) → IsForeign a area → AreApart area (status_byte (address_of (transmit_ring a) a.adapter.transmit_ring.tail))
      → IsForeign b area

-- If the conditions hold and the slot at TDT can be offered, `OfferedFrame` holds after TDT advances by one.
abbrev pub FramesCanBeOffered : Type 0
FramesCanBeOffered =
    (oldest_receive oldest_transmit : ℕ) (world : World) → Sound oldest_receive oldest_transmit world
    → CanSend oldest_receive oldest_transmit world
    → OfferedFrame oldest_receive oldest_transmit world (offering_frame world)
