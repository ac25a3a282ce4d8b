-- What a driver knows of its adapter and its memory between its actions, and what the driver relies on (our choice).
use Rattle.std.specs.Prelude.{⊤, ◌≡◌, ◌≤◌, ◌<◌, ◌+◌, ◌*◌, ◌%◌, ℕ, Bool, true, false, List, [], ◌∷◌, All, map, length}
use Rattle.registers.specs.Bits.{HasBit}
use Rattle.dma_memory.specs.Areas.{IsInside}
use Rattle.dma_memory.specs.HostMemory.{bytes_at}
use Rattle.dma_memory.specs.Layout.{Counts, IsAllowed, TransmitBuffer, area_of, descriptor_bytes, receive_buffer_bytes, size_of}
use Rattle.dma_memory.specs.Owners.{HasOneOwner}
use Rattle.descriptors.specs.declared.ring.Ring.{Ring}
use Rattle.descriptors.specs.Ring.{count_of, slots_from}
use Rattle.descriptors.specs.RingLaws.{place}
use Rattle.descriptors.specs.RxDesc.{rx_desc_bytes}
use Rattle.descriptors.specs.RxStatus.{status_of}
use Rattle.registers.specs.Places.{tctl_psp}
use Rattle.rx_engine.specs.Descriptors.{named_address}
use Rattle.tx_engine.specs.Transmitter.{Queued}
use Rattle.adapter_model.specs.Conditions.{AreCut, FitBuffers, Sound}
use Rattle.adapter_model.specs.HostAreas.{data_of}
use Rattle.adapter_model.specs.KnownRing.{KnowsRing}
use Rattle.adapter_model.specs.Running.{CanRun}
use Rattle.adapter_model.specs.Slots.{outstanding}
use Rattle.adapter_model.specs.World.{World, receive_ring, transmit_ring}
use Rattle.bus.specs.DriverState.{DriverState, HandedOut, buffer_at, owners, receive_slot, receive_tail}
use Rattle.bus.specs.DriverState.{transmit_slot}

-- What always holds of the driver's own state, whatever the adapter does.
pub record IsDriver (driver : DriverState) : Type 0 where
  -- The oldest receive slot is a slot of the ring.
  pub oldest_slot : driver.oldest_receive < driver.layout.rx
  -- At least one receive slot is neither outstanding nor staged.
  pub room : length driver.buffers + length driver.staged < driver.layout.rx
  -- Each buffer has exactly one owner.
  pub one_owner : HasOneOwner driver.layout.buffers (owners driver)
  -- The layout's counts of descriptors and receive buffers are allowed.
  pub allowed : IsAllowed driver.layout

-- The receive side

-- The bytes of a receive descriptor with the address of a buffer. The other fields are 0.
abbrev pub empty_descriptor : ℕ → List ℕ
empty_descriptor buffer = rx_desc_bytes
    (record { address = buffer; length = 0; checksum = 0; status = status_of 0; errors = 0; special = 0 })

-- In memory, the receive slots from `slot` on have empty descriptors with these buffers, in order.
abbrev pub AreStored : List ℕ → Counts → ℕ → List ℕ → Type 0
AreStored memory counts slot [] = ⊤
AreStored memory counts slot (number ∷ later) =
    (bytes_at memory (receive_slot slot) descriptor_bytes ≡ empty_descriptor (buffer_at counts number))
    × AreStored memory counts ((slot + 1) % counts.rx) later

-- A piece of a frame that others hold is in its buffer.
pub record Stands (counts : Counts) (memory : List ℕ) (one : HandedOut) : Type 0 where
  -- Memory contains the piece's bytes at the start of the buffer.
  pub bytes : bytes_at memory (buffer_at counts one.number) (length one.bytes) ≡ one.bytes
  -- The piece isn't longer than a receive buffer.
  pub short : length one.bytes ≤ receive_buffer_bytes

-- The transmit side is set up: the registers of its ring agree with the driver. TCTL.PSP is set. The data of each
-- outstanding slot is in the slot's own buffer.
pub record TransmitIsUp (counts : Counts) (oldest sending : ℕ) (memory : List ℕ) (ring : Ring) (control : ℕ) : Type 0 where
  -- the oldest transmit slot is a slot of the ring
  pub oldest_slot : oldest < counts.tx
  -- at least one transmit slot isn't outstanding
  pub room : sending < counts.tx
  -- TCTL.PSP is set
  pub pads : HasBit control tctl_psp
  -- TDBAL, TDBAH and TDLEN contain the ring's base and size. TDT contains the place after the last outstanding slot,
  -- and TDH the place of a slot.
  pub knows : KnowsRing ring (descriptor_bytes * counts.rx) counts.tx (place counts.tx oldest sending)
  -- the data of each outstanding slot is inside the slot's own buffer
  pub sources : All (λ slot. IsInside (data_of memory (transmit_slot counts slot)) (area_of counts (TransmitBuffer slot)))
      (slots_from counts.tx oldest sending)

-- The transmit side is off, as during initialization: its ring ends before the buffers, no slot is outstanding, and
-- the transmit packet buffer is empty. TDH and TDT contain the place of the driver's oldest slot.
pub record TransmitIsOff (counts : Counts) (oldest sending : ℕ) (ring : Ring) (buffer : List Queued) : Type 0 where
  -- the ring ends at or before the end of both rings of the layout, and so before the buffers
  pub ends : ring.base + descriptor_bytes * count_of ring ≤ descriptor_bytes * counts.rx + descriptor_bytes * counts.tx
  -- TDH equals TDT
  pub idle : ring.head ≡ ring.tail
  -- TDT contains the place of the driver's oldest slot
  pub last : ring.tail ≡ oldest
  -- no slot is outstanding
  pub nothing : sending ≡ 0
  -- the transmit packet buffer is empty
  pub empty : buffer ≡ []

-- The parts of an adapter and its memory that the transmit side uses.
pub record TransmitSide : Type 0 where
  -- the host's memory
  pub memory : List ℕ
  -- the registers of the transmit ring
  pub ring : Ring
  -- the value of TCTL
  pub control : ℕ
  -- the transmit packet buffer
  pub buffer : List Queued

-- the transmit side of this adapter and its memory
abbrev pub transmit_side : World → TransmitSide
transmit_side world = record {
  memory = world.memory;
  ring = transmit_ring world;
  control = world.adapter.transmit_control;
  buffer = world.adapter.transmitter.buffer;
}

-- The transmit side is set up (`true`) or off (`false`).
abbrev pub TransmitIs : Bool → Counts → (oldest sending : ℕ) → TransmitSide → Type 0
TransmitIs true counts oldest sending side = TransmitIsUp counts oldest sending side.memory side.ring side.control
TransmitIs false counts oldest sending side = TransmitIsOff counts oldest sending side.ring side.buffer

-- The adapter and its memory meet the conditions of the bus law, and no step of an engine is a fault.
pub record MeetsLaw (oldest_receive oldest_transmit : ℕ) (world : World) : Type 0 where
  -- the conditions of the bus law hold for the driver's oldest slots
  pub sound : Sound oldest_receive oldest_transmit world
  -- no step of an engine is a fault
  pub runs : CanRun world
  -- A receive buffer is large enough for each finished piece of a frame, for the piece in progress, and for later
  -- pieces.
  pub fit : FitBuffers receive_buffer_bytes oldest_receive world
  -- Received frames are split by the size of the receive buffers, which RCTL.BSIZE selects while RCTL.EN is set. Finished descriptors have
  -- no errors, and each frame that ends in slots is legal.
  pub whole : AreCut receive_buffer_bytes oldest_receive world

-- The descriptors of receive slots in memory agree with the driver's state.
pub record SlotsAreStored (driver : DriverState) (world : World) : Type 0 where
  -- The descriptor of each outstanding slot contains the address of the buffer that the driver lists for this slot.
  pub names : map (named_address world.memory) (outstanding (receive_ring world) driver.oldest_receive) ≡ map
      (buffer_at driver.layout) driver.buffers
  -- Each staged slot has an empty descriptor with the address of its buffer.
  pub stored : AreStored world.memory driver.layout (receive_tail driver) driver.staged

-- The driver is ready, with its transmit side set up or off.
pub record ReadyWith (up : Bool) (driver : DriverState) (world : World) : Type 0 where
  -- what always holds of the driver's own state
  pub driver_is : IsDriver driver
  -- the conditions of the bus law hold, and no step of an engine is a fault
  pub law : MeetsLaw driver.oldest_receive driver.oldest_transmit world
  -- Memory contains the whole layout.
  pub lies : size_of driver.layout ≤ length world.memory
  -- RDBAL, RDBAH and RDLEN contain the ring's base and size. RDT contains the place after the last outstanding slot,
  -- and RDH the place of a slot.
  pub receive : KnowsRing (receive_ring world) 0 driver.layout.rx (receive_tail driver)
  -- the transmit side is set up or off
  pub transmit : TransmitIs up driver.layout driver.oldest_transmit driver.sending (transmit_side world)
  -- descriptors in memory agree with the driver's state
  pub slots : SlotsAreStored driver world
  -- each piece that others hold is still in its buffer
  pub stand : All (Stands driver.layout world.memory) driver.handed_out

-- The driver is ready, with its transmit side set up.
abbrev pub Ready : DriverState → World → Type 0
Ready = ReadyWith true
