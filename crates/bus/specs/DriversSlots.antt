-- What doesn't change between two accesses: the contents of finished slots, written-back slots and the driver's own slots, and what the
-- driver wrote into descriptors.
use Rattle.std.specs.Prelude.{◌≡◌, ◌≢◌, ◌<◌, ◌+◌, ℕ, List, All, map}
use Rattle.dma_memory.specs.Areas.{bytes_in, descriptor_area}
use Rattle.descriptors.specs.declared.ring.Ring.{Ring}
use Rattle.descriptors.specs.Ring.{address_of, count_of}
use Rattle.rx_engine.specs.Descriptors.{named_address}
use Rattle.tx_engine.specs.Fetching.{transmit_descriptor_at}
use Rattle.adapter_model.specs.Slots.{finished, outstanding, written_back_slots}
use Rattle.adapter_model.specs.HostFrames.{named}
use Rattle.adapter_model.specs.Conditions.{Sound}
use Rattle.bus.specs.Law.{Between, Happens}
use Rattle.bus.specs.Pasts.{Past}
use Rattle.adapter_model.specs.World.{receive_ring, transmit_ring, World}

-- The descriptors of these slots have the same bytes in both worlds.
abbrev pub SlotsStay : World → World → List ℕ → Type 0
SlotsStay a b slots = All (λ slot. bytes_in b.memory (descriptor_area slot) ≡ bytes_in a.memory (descriptor_area slot)) slots

-- The bytes of the piece in a finished slot.
abbrev pub frame_named : World → ℕ → List ℕ
frame_named world slot = bytes_in world.memory (named world.memory slot)

-- The descriptors of finished slots, and the bytes of their pieces, don't change.
pub record FinishedStay (oldest : ℕ) (a b : World) : Type 0 where
  pub slots : SlotsStay a b (finished oldest a)
  pub frames : map (frame_named b) (finished oldest a) ≡ map (frame_named a) (finished oldest a)

-- The ring has a slot with this index, and the slot isn't outstanding. So the slot is the driver's.
pub record IsDriversSlot (ring : Ring) (oldest slot : ℕ) : Type 0 where
  pub below : slot < count_of ring
  pub apart : All (λ other. other ≢ address_of ring slot) (outstanding ring oldest)

-- A slot of a ring that is the driver's remains the driver's, and its descriptor doesn't change.
pub record DriversSlotStays (ring : World → Ring) (oldest slot : ℕ) (a b : World) : Type 0 where
  pub own : IsDriversSlot (ring b) oldest slot
  pub bytes : bytes_in b.memory (descriptor_area (address_of (ring a) slot))
      ≡ bytes_in a.memory (descriptor_area (address_of (ring a) slot))

-- `DriversSlotStays` holds for each slot of the ring that is the driver's.
abbrev pub DriversSlotsStay : (World → Ring) → ℕ → World → World → Type 0
DriversSlotsStay ring oldest a b = (slot : ℕ) → IsDriversSlot (ring a) oldest slot → DriversSlotStays ring oldest slot a b

-- The addresses in the receive descriptors don't change.
abbrev pub AddressesStay : World → World → Type 0
AddressesStay a b =
    (slot : ℕ) → slot < count_of (receive_ring a)
    → named_address b.memory (address_of (receive_ring a) slot) ≡ named_address a.memory (address_of (receive_ring a) slot)

-- A transmit descriptor doesn't change except for its status, byte 12.
pub record KeepsAllButStatus (a b : World) (descriptor : ℕ) : Type 0 where
  -- bytes 0 to 11
  pub before : bytes_in b.memory (record { address = descriptor; size = 12 })
      ≡ bytes_in a.memory (record { address = descriptor; size = 12 })
  -- bytes 13 to 15
  pub behind : bytes_in b.memory (record { address = descriptor + 13; size = 3 })
      ≡ bytes_in a.memory (record { address = descriptor + 13; size = 3 })
  pub fields : transmit_descriptor_at b.memory descriptor
      ≡ record (transmit_descriptor_at a.memory descriptor) { status = (transmit_descriptor_at b.memory descriptor).status }

-- No transmit descriptor changes except for its status.
abbrev pub RequestsStay : World → World → Type 0
RequestsStay a b = (slot : ℕ) → slot < count_of (transmit_ring a) → KeepsAllButStatus a b (address_of (transmit_ring a) slot)

-- The same slots of both rings are outstanding.
pub record SameOutstanding (oldest_receive oldest_transmit : ℕ) (a b : World) : Type 0 where
  pub received : outstanding (receive_ring b) oldest_receive ≡ outstanding (receive_ring a) oldest_receive
  pub sent : outstanding (transmit_ring b) oldest_transmit ≡ outstanding (transmit_ring a) oldest_transmit

-- Between two accesses of a driver, the law and its conditions hold, and the same slots are outstanding. The descriptors of finished slots,
-- of written-back slots and of the driver's own slots don't change. What the driver wrote into the other descriptors doesn't change either.
pub record DriversSideStays (oldest_receive oldest_transmit : ℕ) (a b : World) (past : Past) : Type 0 where
  pub between : Between oldest_receive oldest_transmit a b past
  pub outstanding_same : SameOutstanding oldest_receive oldest_transmit a b
  pub finished_stay : FinishedStay oldest_receive a b
  pub written_stay : SlotsStay a b (written_back_slots oldest_transmit a)
  pub receive_slots : DriversSlotsStay receive_ring oldest_receive a b
  pub transmit_slots : DriversSlotsStay transmit_ring oldest_transmit a b
  pub addresses : AddressesStay a b
  pub requests : RequestsStay a b

-- If the conditions hold, `DriversSideStays` holds whatever happens between two accesses.
abbrev pub DriversSideStaysAlways : Type 0
DriversSideStaysAlways =
    (oldest_receive oldest_transmit : ℕ) (a b : World) (past : Past) → Sound oldest_receive oldest_transmit a → Happens a b past
    → DriversSideStays oldest_receive oldest_transmit a b past
