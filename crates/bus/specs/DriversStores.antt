-- A driver's store to its own memory changes neither the conditions of the law nor frames.
use Rattle.std.specs.Prelude.{◌≡◌, ◌≤◌, ℕ, List, All, length}
use Rattle.dma_memory.specs.Areas.{AreApart, Area, descriptor_area}
use Rattle.dma_memory.specs.HostMemory.{LiesIn}
use Rattle.registers.specs.Bits.{HasBit}
use Rattle.registers.specs.Places.{rctl_en}
use Rattle.adapter_model.specs.Slots.{finished, outstanding, written_back_slots}
use Rattle.adapter_model.specs.HostAreas.{buffer_size, frame_areas, IsForeign}
use Rattle.adapter_model.specs.HostFrames.{finished_pieces, frames_held, frames_to_send}
use Rattle.adapter_model.specs.Conditions.{AreCut, FitBuffers, Sound}
use Rattle.adapter_model.specs.Running.{GoOn}
use Rattle.adapter_model.specs.World.{receive_ring, transmit_ring, World, world_after_store}

-- An area is apart from all outstanding descriptors, and from all frames and buffers that the conditions name.
pub record IsDriversArea (oldest_receive oldest_transmit : ℕ) (world : World) (area : Area) : Type 0 where
  pub received : All (λ slot. AreApart area (descriptor_area slot)) (outstanding (receive_ring world) oldest_receive)
  pub sent : All (λ slot. AreApart area (descriptor_area slot)) (outstanding (transmit_ring world) oldest_transmit)
  pub frames : All (AreApart area) (frame_areas oldest_receive world)

-- The conditions hold in the second world, and its slots, pieces and frames are those of the first world.
pub record SameFrames (oldest_receive oldest_transmit : ℕ) (a b : World) : Type 0 where
  pub sound : Sound oldest_receive oldest_transmit b
  pub held : frames_held oldest_receive b ≡ frames_held oldest_receive a
  pub to_send : frames_to_send b ≡ frames_to_send a
  pub finished_same : finished oldest_receive b ≡ finished oldest_receive a
  pub written_same : written_back_slots oldest_transmit b ≡ written_back_slots oldest_transmit a
  pub pieces_same : finished_pieces oldest_receive b ≡ finished_pieces oldest_receive a
  -- Frames that are cut into buffers of some size are still cut in this way, if RCTL selects this size while RCTL.EN is set.
  pub whole : (size : ℕ) → (HasBit b.adapter.filter.rctl rctl_en → buffer_size b ≡ size)
      → AreCut size oldest_receive a → AreCut size oldest_receive b
  -- Pieces that fit into buffers of some size still fit, if RCTL selects no larger size while RCTL.EN is set.
  pub fits : (size : ℕ) → (HasBit b.adapter.filter.rctl rctl_en → buffer_size b ≤ size)
      → FitBuffers size oldest_receive a → FitBuffers size oldest_receive b

-- The conditions hold, slots, pieces and frames are the same, and engines that could run still can run.
pub record LeavesFrames (oldest_receive oldest_transmit : ℕ) (a b : World) : Type 0 where
  pub same : SameFrames oldest_receive oldest_transmit a b
  pub runs : GoOn a b

-- After a store to an area of memory that meets `IsDriversArea`, `LeavesFrames` holds.
abbrev pub DriversStoresLeaveFrames : Type 0
DriversStoresLeaveFrames =
    (oldest_receive oldest_transmit : ℕ) (world : World) (address : ℕ) (bytes : List ℕ)
    → Sound oldest_receive oldest_transmit world → LiesIn world.memory address (length bytes)
    → IsDriversArea oldest_receive oldest_transmit world (record { address = address; size = length bytes })
    → LeavesFrames oldest_receive oldest_transmit world (world_after_store address bytes world)

-- After a store to an area of memory that meets `IsDriversArea`, an area that the adapter may not write remains such an area.
abbrev pub DriversStoresLeaveForeign : Type 0
DriversStoresLeaveForeign =
    (oldest_receive oldest_transmit : ℕ) (world : World) (address : ℕ) (bytes : List ℕ)
    → Sound oldest_receive oldest_transmit world → LiesIn world.memory address (length bytes)
    → IsDriversArea oldest_receive oldest_transmit world (record { address = address; size = length bytes })
    → (area : Area) → IsForeign world area → IsForeign (world_after_store address bytes world) area
