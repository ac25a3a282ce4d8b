-- Where the rings and buffers of a driver are in its host's memory: the allowed counts, the addresses and sizes, and laws about them.
use Rattle.std.specs.Prelude.{◌≡◌, ◌≢◌, ◌≤◌, ◌<◌, ◌+◌, ◌*◌, ◌%◌, ℕ}
use Rattle.std.specs.Int.{next_multiple_of}
use Rattle.dma_memory.specs.Areas.{Area, area_at, AreApart}
pub use Rattle.dma_memory.specs.Areas.{descriptor_bytes}

-- The numbers of descriptors of both rings, and the number of receive buffers.
pub record Counts : Type 0 where
  -- The number of descriptors of the receive ring.
  pub rx : ℕ
  -- The number of descriptors of the transmit ring.
  pub tx : ℕ
  -- The number of receive buffers.
  pub buffers : ℕ

-- The number of descriptors of a ring is a multiple of 8, because its length in bytes is a multiple of 128 ("13.4.27 Receive Descriptor
-- Length"). The number is from 8 to 4,096 (our choice).
pub record IsRingSize (n : ℕ) : Type 0 where
  -- The number is a multiple of 8.
  pub eights : n % 8 ≡ 0
  -- The number is at least 8.
  pub least : 8 ≤ n
  -- The number is at most 4,096.
  pub most : n ≤ 4096

-- There is at least one receive buffer for each receive descriptor, and there are at most 8,192 receive buffers (our choice).
pub record IsBufferCount (rx buffers : ℕ) : Type 0 where
  -- There is at least one receive buffer for each receive descriptor.
  pub least : rx ≤ buffers
  -- There are at most 8,192 receive buffers.
  pub most : buffers ≤ 8192

-- The counts of descriptors and receive buffers that a layout may have.
pub record IsAllowed (counts : Counts) : Type 0 where
  -- The receive ring has an allowed size.
  pub rx : IsRingSize counts.rx
  -- The transmit ring has an allowed size.
  pub tx : IsRingSize counts.tx
  -- The number of receive buffers is allowed.
  pub buffers : IsBufferCount counts.rx counts.buffers

-- The number of bytes of a transmit buffer, which has room for the longest frame (our choice).
abbrev pub transmit_buffer_bytes : ℕ
transmit_buffer_bytes = 2048

-- The number of bytes of a receive buffer ("13.4.22 Receive Control", BSIZE 11b).
abbrev pub receive_buffer_bytes : ℕ
receive_buffer_bytes = 256

-- The address of the first buffer: the least multiple of a transmit buffer's size at or after the end of both rings (our choice).
abbrev pub buffers_start : Counts → ℕ
buffers_start counts = next_multiple_of (descriptor_bytes * counts.rx + descriptor_bytes * counts.tx) transmit_buffer_bytes

-- A ring or a buffer of a layout (our choice). A transmit buffer has its descriptor's index, and a receive buffer its number.
pub data Place : Type 0 where
  ReceiveRing : Place
  TransmitRing : Place
  TransmitBuffer : ℕ → Place
  ReceiveBuffer : ℕ → Place

-- The layout with these counts has this place: a ring, one of its transmit buffers (one for each transmit descriptor), or one of its
-- receive buffers.
abbrev pub HasPlace : Counts → Place → Type 0
HasPlace counts ReceiveRing = Unit {0}
HasPlace counts TransmitRing = Unit {0}
HasPlace counts (TransmitBuffer slot) = slot < counts.tx
HasPlace counts (ReceiveBuffer number) = number < counts.buffers

-- The address of a place. In the order of addresses, there are the receive ring, the transmit ring, the transmit buffers and the receive
-- buffers.
abbrev pub start_of : Counts → Place → ℕ
start_of counts ReceiveRing = 0
start_of counts TransmitRing = descriptor_bytes * counts.rx
start_of counts (TransmitBuffer slot) = buffers_start counts + transmit_buffer_bytes * slot
start_of counts (ReceiveBuffer number) = buffers_start counts + transmit_buffer_bytes * counts.tx + receive_buffer_bytes * number

-- The number of bytes of a place.
abbrev pub bytes_of : Counts → Place → ℕ
bytes_of counts ReceiveRing = descriptor_bytes * counts.rx
bytes_of counts TransmitRing = descriptor_bytes * counts.tx
bytes_of counts (TransmitBuffer slot) = transmit_buffer_bytes
bytes_of counts (ReceiveBuffer number) = receive_buffer_bytes

-- The number of bytes of memory that a layout needs: up to the end of the last receive buffer, at which one more buffer would begin.
abbrev pub size_of : Counts → ℕ
size_of counts = start_of counts (ReceiveBuffer counts.buffers)

-- The area that a place occupies.
abbrev pub area_of : Counts → Place → Area
area_of counts place = area_at (start_of counts place) (bytes_of counts place)

-- Any two different places of a layout are apart.
abbrev pub PlacesAreApart : Type 0
PlacesAreApart = (counts : Counts) (a b : Place) → HasPlace counts a → HasPlace counts b → a ≢ b
    → AreApart (area_of counts a) (area_of counts b)

-- Each place of a layout ends at or before the end of the memory that the layout needs.
abbrev pub PlacesLieBelowSize : Type 0
PlacesLieBelowSize = (counts : Counts) (place : Place) → HasPlace counts place
    → start_of counts place + bytes_of counts place ≤ size_of counts

-- The buffers begin at the first multiple of a transmit buffer's size at or after the end of both rings.
pub record BeginsAtNextMultiple (counts : Counts) : Type 0 where
  -- The start of the buffers is a multiple of 2,048.
  pub multiple : buffers_start counts % transmit_buffer_bytes ≡ 0
  -- The buffers begin at or after the end of both rings.
  pub behind_rings : descriptor_bytes * counts.rx + descriptor_bytes * counts.tx ≤ buffers_start counts
  -- No smaller multiple is at or after the end of both rings.
  pub first : buffers_start counts < descriptor_bytes * counts.rx + descriptor_bytes * counts.tx + transmit_buffer_bytes
