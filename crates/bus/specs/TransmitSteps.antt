-- What a driver that is ready, with its transmit side set up, does with its transmit slots (our choice).
use Rattle.std.specs.Prelude.{⊤, ◌≡◌, ◌≤◌, ◌<◌, ◌+◌, ◌-◌, ◌%◌, ◌⊎◌, ◌++◌, ℕ, true, false, List, [], ◌∷◌, All, length}
use Rattle.adapter_model.specs.declared.offsets.TheConstants.{TDT}
use Rattle.dma_memory.specs.Areas.{bytes_in}
use Rattle.dma_memory.specs.HostMemory.{bytes_at}
use Rattle.dma_memory.specs.Layout.{Counts, TransmitBuffer, area_of, transmit_buffer_bytes, descriptor_bytes}
use Rattle.descriptors.specs.Frames.{longest_frame, padded, shortest_sent}
use Rattle.adapter_model.specs.HostFrames.{frames_to_send}
use Rattle.adapter_model.specs.Slots.{is_done, written_back_slots}
use Rattle.adapter_model.specs.World.{World, transmit_ring, world_after_store, world_after_write}
use Rattle.bus.specs.Law.{Happens}
use Rattle.bus.specs.SlotOffers.{offering_frame}
use Rattle.bus.specs.DriversSlots.{IsDriversSlot}
use Rattle.bus.specs.Pasts.{Past, nothing}
use Rattle.bus.specs.declared.event.Access.{Access}
use Rattle.bus.specs.declared.event.Access.TheVariants.{Loads, Stores, Writes}
use Rattle.bus.specs.Calls.{Goes, driver_did, driver_in, send_accesses, tail_buffer, tail_slot, transmit_buffer, transmit_loads}
use Rattle.bus.specs.Calls.{whole_descriptor}
use Rattle.bus.specs.DriverState.{DriverState, transmit_slot, transmit_tail}
use Rattle.bus.specs.ReadyDrivers.{Ready}

-- the address of the descriptor of the oldest transmit slot
abbrev pub oldest_slot : DriverState → ℕ
oldest_slot driver = transmit_slot driver.layout driver.oldest_transmit

-- The transmit ring has this slot, and the slot isn't outstanding.
abbrev pub IsDriversTransmitSlot : DriverState → ℕ → World → Type 0
IsDriversTransmitSlot driver slot world = IsDriversSlot (transmit_ring world) driver.oldest_transmit slot

-- For a driver that is ready, the transmit slot at the tail isn't outstanding.
abbrev pub NextSlotBelongsToDriver : Type 0
NextSlotBelongsToDriver =
    (driver : DriverState) (world : World) → Ready driver world → IsDriversTransmitSlot driver (transmit_tail driver) world

-- A store of bytes that fit into the buffer of a transmit slot that isn't outstanding is an interval in which the driver doesn't change.
-- The store begins at the start of the buffer.
abbrev pub DataIsStored : Type 0
DataIsStored =
    (driver : DriverState) (slot : ℕ) (bytes : List ℕ) (world : World) → Ready driver world → IsDriversTransmitSlot driver slot world
    → length bytes ≤ transmit_buffer_bytes
    → Goes (driver_in driver world) (driver_in driver (world_after_store (transmit_buffer driver.layout slot) bytes world))
    (driver_did [] []) nothing

-- A store of the 16 bytes of the descriptor of a transmit slot that isn't outstanding is an interval in which the driver doesn't change.
abbrev pub DescriptorIsStored : Type 0
DescriptorIsStored =
    (driver : DriverState) (slot : ℕ) (bytes : List ℕ) (world : World) → Ready driver world → IsDriversTransmitSlot driver slot world
    → length bytes ≡ descriptor_bytes
    → Goes (driver_in driver world) (driver_in driver (world_after_store (transmit_slot driver.layout slot) bytes world))
    (driver_did [] []) nothing

-- The buffer and the descriptor of a transmit slot have the same bytes in both worlds.
pub record SameSlot (counts : Counts) (slot : ℕ) (a b : World) : Type 0 where
  pub data_same : bytes_in b.memory (area_of counts (TransmitBuffer slot)) ≡ bytes_in a.memory (area_of counts (TransmitBuffer slot))
  pub descriptor_same : bytes_at b.memory (transmit_slot counts slot) descriptor_bytes
      ≡ bytes_at a.memory (transmit_slot counts slot) descriptor_bytes

-- If the driver is ready, a transmit slot that isn't outstanding keeps the bytes of its buffer and descriptor, whatever happens between two
-- accesses.
abbrev pub SlotsKeepBytes : Type 0
SlotsKeepBytes =
    (driver : DriverState) (slot : ℕ) (a b : World) (past : Past) → Ready driver a → IsDriversTransmitSlot driver slot a → Happens a b past
    → SameSlot driver.layout slot a b

-- A frame is sent

-- The frame is in the buffer of the slot at the tail. The slot's descriptor is that of a whole packet, with the address of this buffer and
-- the frame's length.
pub record FrameStands (driver : DriverState) (frame : List ℕ) (world : World) : Type 0 where
  pub bytes : bytes_at world.memory (tail_buffer driver) (length frame) ≡ frame
  pub descriptor : bytes_at world.memory (tail_slot driver) descriptor_bytes ≡ whole_descriptor (tail_buffer driver) (length frame)

-- A write of TDT with the place after the tail advances the tail by one.
abbrev pub TailIsMoved : Type 0
TailIsMoved =
    (driver : DriverState) (world : World) → Ready driver world
    → world_after_write TDT ((transmit_tail driver + 1) % driver.layout.tx) world ≡ offering_frame world

-- The slot at the tail contains a frame of 14 to 1,518 bytes, and at least two slots aren't outstanding. If the tail advances by one, the
-- frame, padded, is accepted for sending.
abbrev pub FrameIsOffered : Type 0
FrameIsOffered =
    (driver : DriverState) (frame : List ℕ) (world : World) → Ready driver world → driver.sending + 1 < driver.layout.tx
    → shortest_sent ≤ length frame → length frame ≤ longest_frame → FrameStands driver frame world
    → Goes (driver_in driver world) (driver_in (record driver { sending = driver.sending + 1 }) (offering_frame world))
    (driver_did [] (padded frame ∷ [])) nothing

-- A slot is freed

-- the driver after its oldest transmit slot was freed
abbrev pub with_freed : DriverState → DriverState
with_freed driver = record driver { oldest_transmit = (driver.oldest_transmit + 1) % driver.layout.tx; sending = driver.sending - 1 }

-- If the descriptor of the oldest outstanding slot is done, the driver can free this slot.
abbrev pub SlotIsFreed : Type 0
SlotIsFreed =
    (driver : DriverState) (world : World) → Ready driver world → 0 < driver.sending → is_done world.memory (oldest_slot driver) ≡ true
    → Goes (driver_in driver world) (driver_in (with_freed driver) world) (driver_did [] []) nothing

-- If the oldest outstanding slot isn't written back, or no slot is outstanding, no slot is written back.
abbrev pub NoneIsWrittenBack : Type 0
NoneIsWrittenBack =
    (driver : DriverState) (world : World) → Ready driver world
    → (driver.sending ≡ 0) ⊎ (is_done world.memory (oldest_slot driver) ≡ false) → written_back_slots driver.oldest_transmit world ≡ []

-- The number of outstanding slots is the number of frames to be sent plus the number of slots that are written back.
-- There are fewer frames to be sent than slots.
pub record HasFrames (driver : DriverState) (world : World) : Type 0 where
  pub count : length (frames_to_send world) + length (written_back_slots driver.oldest_transmit world) ≡ driver.sending
  pub most : length (frames_to_send world) + 1 ≤ driver.layout.tx

-- `HasFrames` holds for a driver that is ready.
abbrev pub SlotsHaveFrames : Type 0
SlotsHaveFrames = (driver : DriverState) (world : World) → Ready driver world → HasFrames driver world

-- The last access of a call that sends a frame is the write of TDT

-- The access is a load or a store, so it changes no register.
abbrev pub IsLoadOrStore : Access → Type 0
IsLoadOrStore (Loads address size) = ⊤
IsLoadOrStore (Stores address bytes) = ⊤
IsLoadOrStore access = ⊥

-- The accesses are loads and stores, and then a write of `slot` to TDT.
pub record EndsWithTail (accesses : List Access) (slot : ℕ) : Type 0 where
  pub quiet : List Access
  pub all : All IsLoadOrStore quiet
  pub whole : accesses ≡ quiet ++ Writes TDT slot ∷ []

-- The accesses that free slots and then send a frame end with the write of TDT.
abbrev pub SendsEndWithTail : Type 0
SendsEndWithTail =
    (driver : DriverState) (frame : List ℕ) (k : ℕ)
    → EndsWithTail (transmit_loads driver.layout driver.oldest_transmit k ++ send_accesses driver frame)
    ((transmit_tail driver + 1) % driver.layout.tx)
