-- The driver can write its slots, including the slot at the tail (our choice).
use Rattle.std.specs.Prelude.{◌≤◌, ◌<◌, ℕ}
use Rattle.dma_memory.specs.Areas.{descriptor_area}
use Rattle.dma_memory.specs.HostMemory.{LiesIn}
use Rattle.dma_memory.specs.Layout.{descriptor_bytes}
use Rattle.descriptors.specs.declared.ring.Ring.{Ring}
use Rattle.descriptors.specs.Ring.{address_of, count_of, distance_of}
use Rattle.adapter_model.specs.HostAreas.{IsForeign}
use Rattle.adapter_model.specs.Conditions.{Sound}
use Rattle.adapter_model.specs.World.{receive_ring, transmit_ring, World}
use Rattle.bus.specs.DriversSlots.{IsDriversSlot}
use Rattle.bus.specs.DriversStores.{IsDriversArea}

-- A descriptor that a driver can write. The descriptor is inside memory, and the adapter may not write it. The descriptor is apart from
-- outstanding descriptors, and from the frames and buffers that the conditions name.
pub record CanBeWritten (oldest_receive oldest_transmit : ℕ) (world : World) (descriptor : ℕ) : Type 0 where
  pub lies : LiesIn world.memory descriptor descriptor_bytes
  pub own : IsDriversArea oldest_receive oldest_transmit world (descriptor_area descriptor)
  pub foreign : IsForeign world (descriptor_area descriptor)

-- Each slot of the receive ring that is the driver's can be written.
abbrev pub DriversReceiveSlotsCanBeWritten : Type 0
DriversReceiveSlotsCanBeWritten =
    (oldest_receive oldest_transmit slot : ℕ) (world : World)
    → Sound oldest_receive oldest_transmit world → IsDriversSlot (receive_ring world) oldest_receive slot
    → CanBeWritten oldest_receive oldest_transmit world (address_of (receive_ring world) slot)

-- Each slot of the transmit ring that is the driver's can be written.
abbrev pub DriversTransmitSlotsCanBeWritten : Type 0
DriversTransmitSlotsCanBeWritten =
    (oldest_receive oldest_transmit slot : ℕ) (world : World)
    → Sound oldest_receive oldest_transmit world → IsDriversSlot (transmit_ring world) oldest_transmit slot
    → CanBeWritten oldest_receive oldest_transmit world (address_of (transmit_ring world) slot)

-- The slots from the tail up to, but not including, the driver's oldest one are the driver's.
abbrev pub SlotsFromTailBelongToDriver : Type 0
SlotsFromTailBelongToDriver =
    (ring : Ring) (oldest slot : ℕ) → oldest < count_of ring → slot < count_of ring
    → distance_of ring oldest ring.tail ≤ distance_of ring oldest slot → IsDriversSlot ring oldest slot

-- The slot at the tail belongs to the driver.
abbrev pub TailSlotsBelongToDriver : Type 0
TailSlotsBelongToDriver =
    (ring : Ring) (oldest : ℕ) → oldest < count_of ring → ring.tail < count_of ring → IsDriversSlot ring oldest ring.tail
