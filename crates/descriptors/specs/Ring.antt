-- A ring of descriptors as its registers define it, and laws about rings ("13.4.25 Receive Descriptor Base Address Low" to "13.4.29 Receive
-- Descriptor Tail", and "13.4.36 Transmit Descriptor Base Address Low" to "13.4.40 Transmit Descriptor Tail" of Intel's manual). Slots are
-- numbered from 0.
use Rattle.std.specs.Prelude.{◌≡◌, ◌<◌, ◌+◌, ◌-◌, ◌*◌, ◌/◌, ◌%◌, ℕ, zero, suc, min, List, [], ◌∷◌, ◌++◌, length}
use Rattle.descriptors.specs.declared.ring.Ring.{Ring}

-- The number of descriptors of the ring, sixteen bytes each. There are at most 65,536, because indices have 16 bits. The length registers
-- have 20 bits, so the adapter's rings have fewer than 65,536.
abbrev pub count_of : Ring → ℕ
count_of ring = min (ring.bytes / 16) 65536

-- Head and tail are indices of slots of the ring. A ring without descriptors has no slots.
pub record HasValidIndices (ring : Ring) : Type 0 where
  -- Head is the index of a slot.
  pub head : ring.head < count_of ring
  -- Tail is the index of a slot.
  pub tail : ring.tail < count_of ring

-- The index of the slot after the slot with this index: 0 after the last slot.
abbrev pub next_of : Ring → ℕ → ℕ
next_of ring index = (index + 1) % count_of ring

-- The number of slots by which one index must advance to reach another, with wrapping.
abbrev pub distance_of : Ring → ℕ → ℕ → ℕ
distance_of ring from to = (to + count_of ring - from) % count_of ring

-- The address of a slot's descriptor.
abbrev pub address_of : Ring → ℕ → ℕ
address_of ring index = ring.base + 16 * index

-- The indices of k slots from an index on, in a ring of n slots, with wrapping.
abbrev pub slots_from : ℕ → ℕ → ℕ → List ℕ
slots_from n index zero = []
slots_from n index (suc k) = index ∷ slots_from n ((index + 1) % n) k

-- The slots that the adapter owns: from head up to, but not including, tail, with wrapping ("3.2.6 Receive Descriptor Queue Structure",
-- "3.4 Transmit Descriptor Ring Structure"). If head equals tail, the adapter owns no slot.
unfoldable pub offered_places : Ring → List ℕ
offered_places ring = slots_from (count_of ring) ring.head (distance_of ring ring.head ring.tail)

-- Laws of rings. The first and the last law require that head and tail are indices of slots.

-- If head differs from tail, the first slot that the adapter owns is the one at the head. After the head advances by one slot, the adapter
-- owns the same slots without this first slot.
abbrev pub OfferedBeginAtHead : Type 0
OfferedBeginAtHead = (ring : Ring) → HasValidIndices ring → ¬ (ring.head ≡ ring.tail)
    → offered_places ring ≡ ring.head ∷ offered_places (record ring { head = next_of ring ring.head })

-- If head equals tail, the adapter owns no slot.
abbrev pub NoneIsOffered : Type 0
NoneIsOffered = (ring : Ring) → ring.head ≡ ring.tail → offered_places ring ≡ []

-- The number of slots that the adapter owns is the distance from head to tail.
abbrev pub OfferedAreDistance : Type 0
OfferedAreDistance = (ring : Ring) → length (offered_places ring) ≡ distance_of ring ring.head ring.tail

-- If the tail advances by one slot, but not to the head, the slot at the old tail is added as the adapter's last slot.
abbrev pub OfferedGrowAtTail : Type 0
OfferedGrowAtTail =
    (ring : Ring) → HasValidIndices ring → ¬ (next_of ring ring.tail ≡ ring.head)
    → offered_places (record ring { tail = next_of ring ring.tail }) ≡ offered_places ring ++ ring.tail ∷ []
