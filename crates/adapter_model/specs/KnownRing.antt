-- A descriptor ring as its driver knows it (our choice).
use Rattle.std.specs.Prelude.{◌≡◌, ◌<◌, ℕ}
use Rattle.descriptors.specs.declared.ring.Ring.{Ring}
use Rattle.descriptors.specs.Ring.{count_of}

-- The ring has this address, this number of slots and this tail. The head is the index of a slot.
pub record KnowsRing (ring : Ring) (base count tail : ℕ) : Type 0 where
  -- The ring begins at this address.
  pub begins : ring.base ≡ base
  -- The ring has this number of slots.
  pub slots : count_of ring ≡ count
  -- The tail register contains this index.
  pub last : ring.tail ≡ tail
  -- The head register contains the index of a slot.
  pub head_slot : ring.head < count
