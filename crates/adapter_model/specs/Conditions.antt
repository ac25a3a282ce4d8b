-- The conditions under which a driver and its adapter share memory, and conditions on the sizes of receive buffers and pieces (our choice).
use Rattle.std.specs.Prelude.{◌≡◌, ◌≤◌, ◌<◌, ◌++◌, ℕ, true, All, length, map}
use Rattle.descriptors.specs.Frames.{IsLegal, longest_frame}
use Rattle.dma_memory.specs.Areas.{AreSeparate}
use Rattle.registers.specs.Bits.{HasBit}
use Rattle.registers.specs.Places.{rctl_en, tctl_psp}
use Rattle.rx_engine.specs.Descriptors.{descriptor_at}
use Rattle.rx_engine.specs.Held.{HasBegun}
use Rattle.rx_engine.specs.Pieces.{IsCut, begun_of, frames_of}
use Rattle.tx_engine.specs.Fetching.{fetched}
use Rattle.tx_engine.specs.Transmitter.{Queued}
use Rattle.adapter_model.specs.HostAreas.{areas, buffer_size, work_areas}
use Rattle.adapter_model.specs.HostFrames.{finished_pieces, named, pieces_in_slots}
use Rattle.adapter_model.specs.Slots.{IsDealt, buffered, finished, slots_in_work, offered}
use Rattle.adapter_model.specs.World.{World, receive_ring, transmit_ring}

-- The descriptor of a frame asks for a report: RS is set.
abbrev pub Reports : Queued → Type 0
Reports queued = queued.rs ≡ true

-- The conditions on a world whose driver's oldest slots in the receive and in the transmit ring have these indices.
pub record Sound (oldest_receive oldest_transmit : ℕ) (world : World) : Type 0 where
  -- The outstanding slots of the receive ring are finished slots, then the slot in progress, if any, then the offered slots (`IsDealt`).
  pub receive_slots : IsDealt world.memory (receive_ring world) oldest_receive (slots_in_work world)
  -- The outstanding slots of the transmit ring are written-back slots, then those of the frames in the packet buffer, then the offered
  -- slots (`IsDealt`).
  pub transmit_slots : IsDealt world.memory (transmit_ring world) oldest_transmit (buffered world)
  -- Both rings and the areas of `frame_areas` are inside memory, and no two of these areas overlap.
  pub separate : AreSeparate world.memory (areas oldest_receive world)
  -- The descriptor of each frame to be sent asks for a report.
  pub reports : All Reports (world.adapter.transmitter.buffer ++ map (fetched true world.memory) (offered (transmit_ring world)))
  -- The pieces in slots after the last end of a frame are the moved bytes of the receive packet buffer's oldest frame (`HasBegun`).
  pub begun : HasBegun world.memory (finished_pieces oldest_receive world) world.adapter.receiver
  -- If TDH and TDT differ, TCTL.PSP is set.
  pub pads : ¬ (world.adapter.transmit_ring.head ≡ world.adapter.transmit_ring.tail) → HasBit world.adapter.transmit_control tctl_psp

-- The finished slots and the slot in progress contain legal frames, cut into receive buffers of this size. No finished slot reports an
-- error.
pub record AreCut (size oldest_receive : ℕ) (world : World) : Type 0 where
  -- If RCTL.EN is set, RCTL.BSIZE selects this size.
  pub sized : HasBit world.adapter.filter.rctl rctl_en → buffer_size world ≡ size
  -- No finished descriptor reports an error.
  pub have_no_errors : All (λ slot. (descriptor_at world.memory slot).errors ≡ 0) (finished oldest_receive world)
  -- A piece that isn't the last of its frame has this size. The last piece of a frame has at least 1 byte, and at most this size.
  pub cut : All (IsCut size) (pieces_in_slots oldest_receive world)
  -- Each frame that ends in these slots is legal.
  pub legal : All IsLegal (frames_of (pieces_in_slots oldest_receive world))
  -- The number of bytes after the last end of a frame in these slots is below the length of the longest legal frame.
  pub short : length (begun_of (pieces_in_slots oldest_receive world)) < longest_frame

-- Receive buffers of this size have room for each finished piece, for the piece in progress, and for later pieces.
pub record FitBuffers (size oldest_receive : ℕ) (world : World) : Type 0 where
  -- If RCTL.EN is set, RCTL.BSIZE selects at most this size.
  pub large : HasBit world.adapter.filter.rctl rctl_en → buffer_size world ≤ size
  -- Each finished piece has at most this size.
  pub finished_fit : All (λ slot. (named world.memory slot).size ≤ size) (finished oldest_receive world)
  -- The piece in progress, if any, has at most this size.
  pub work_fits : All (λ area. area.size ≤ size) (work_areas world.memory world.adapter.receiver.work)
