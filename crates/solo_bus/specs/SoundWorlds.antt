-- Worlds in which the conditions of the law hold and the engines can run, so the conditions can be met.
use Rattle.std.specs.Prelude.{◌≢◌, ◌<◌, []}
use Rattle.descriptors.specs.Ring.{count_of}
use Rattle.adapter_model.specs.Slots.{buffered, finished, slots_in_work, offered, written_back_slots}
use Rattle.adapter_model.specs.HostAreas.{buffer_size}
use Rattle.adapter_model.specs.HostFrames.{frames_to_send}
use Rattle.adapter_model.specs.Conditions.{FitBuffers, Sound}
use Rattle.adapter_model.specs.Running.{CanRun}
use Rattle.adapter_model.specs.World.{receive_ring, transmit_ring, World}

-- Some world has this property and meets the conditions, with the first slot of each ring as the oldest one. The frames of this world fit
-- into buffers of the size that RCTL.BSIZE selects, and its engines can run.
abbrev pub SomeSound : (World → Type 0) → Type 0
SomeSound Has = (world : World) × Sound 0 0 world × FitBuffers (buffer_size world) 0 world × CanRun world × Has world

-- Both rings have slots, and some slots of the receive ring are offered.
pub record HasRings (world : World) : Type 0 where
  pub receives : 0 < count_of (receive_ring world)
  pub transmits : 0 < count_of (transmit_ring world)
  pub offers : offered (receive_ring world) ≢ []

-- A piece of a frame is in progress in a slot of the receive ring.
abbrev pub HasPieceInWork : World → Type 0
HasPieceInWork world = slots_in_work world ≢ []

-- The receive ring's oldest slot, slot 0, is finished.
abbrev pub HasFinished : World → Type 0
HasFinished world = finished 0 world ≢ []

-- The transmit ring's oldest slot, slot 0, is written back.
abbrev pub HasWrittenBack : World → Type 0
HasWrittenBack world = written_back_slots 0 world ≢ []

-- The transmit ring has offered slots, and frames are to be sent.
pub record HasFramesInRing (world : World) : Type 0 where
  pub slots : offered (transmit_ring world) ≢ []
  pub frames : frames_to_send world ≢ []

-- There are frames in the transmit packet buffer.
abbrev pub HasFramesInBuffer : World → Type 0
HasFramesInBuffer world = buffered world ≢ []
