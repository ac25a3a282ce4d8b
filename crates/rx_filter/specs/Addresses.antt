-- Ethernet addresses, their register words and group numbers, and the parts of a frame that the receive filter reads. A frame is a list
-- of bytes that begins with its destination (IEEE 802.3 clause 3.2; tags: IEEE 802.1Q).
use Rattle.std.specs.Prelude.{◌≡◌, ◌<◌, ◌+◌, ◌*◌, ◌/◌, ◌%◌, ◌^◌, ℕ, List, [], ◌∷◌, length, slice_index, take}

-- The destination address: bytes 0 to 5.
abbrev pub destination : List ℕ → List ℕ
destination frame = take 6 frame

-- The address is a group address: the low bit of byte 0 is 1.
abbrev pub IsGroup : List ℕ → Type 0
IsGroup address = slice_index address 0 % 2 ≡ 1

-- The address is an individual address: the low bit of byte 0 is 0.
abbrev pub IsIndividual : List ℕ → Type 0
IsIndividual address = slice_index address 0 % 2 ≡ 0

-- The broadcast address, FF:FF:FF:FF:FF:FF.
abbrev pub broadcast : List ℕ
broadcast = 255 ∷ 255 ∷ 255 ∷ 255 ∷ 255 ∷ 255 ∷ []

-- The number of an address in the group table (13.5.1 "Multicast Table Array"): 12 bits, from bit `shift` on, of the last two bytes. The
-- later byte is the higher one.
abbrev pub group_number : ℕ → List ℕ → ℕ
group_number shift address = (slice_index address 5 * 256 + slice_index address 4) / 2 ^ shift % 4096

-- The value of RAL for an address: bytes 0 to 3, the earlier byte the lower one (13.5.2).
abbrev pub low_word : List ℕ → ℕ
low_word address =
    slice_index address 0 + slice_index address 1 * 2 ^ 8 + slice_index address 2 * 2 ^ 16
    + slice_index address 3 * 2 ^ 24

-- The value of RAH for an address, without AV: bytes 4 and 5, the earlier byte the lower one (13.5.3).
abbrev pub high_word : List ℕ → ℕ
high_word address = slice_index address 4 + slice_index address 5 * 2 ^ 8

-- The list is an address: 6 bytes, each below 256.
pub record IsAddress (address : List ℕ) : Type 0 where
  -- The address has six bytes.
  pub size : length address ≡ 6
  -- Each byte is below 256.
  pub bytes : (k : ℕ) → slice_index address k < 256

-- The type of a frame: bytes 12 and 13, the higher one first.
abbrev pub ether_type : List ℕ → ℕ
ether_type frame = slice_index frame 12 * 256 + slice_index frame 13

-- The VLAN number of a tagged frame: the low 12 bits of bytes 14 and 15, the higher one first.
abbrev pub vlan_number : List ℕ → ℕ
vlan_number frame = (slice_index frame 14 * 256 + slice_index frame 15) % 4096
