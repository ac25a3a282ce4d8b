-- A driver frees its oldest written-back transmit slot: the driver then counts the next slot as its oldest.
use Rattle.std.specs.Prelude.{◌≡◌, ◌∷◌, ℕ, List}
use Rattle.descriptors.specs.Ring.{address_of, next_of}
use Rattle.adapter_model.specs.Slots.{outstanding, written_back_slots}
use Rattle.adapter_model.specs.Conditions.{Sound}
use Rattle.bus.specs.DriversSlots.{IsDriversSlot}
use Rattle.adapter_model.specs.World.{transmit_ring, World}

-- The transmit slot after the oldest one.
abbrev pub behind_oldest_transmit : ℕ → World → ℕ
behind_oldest_transmit oldest world = next_of (transmit_ring world) oldest

-- The slot is the driver's oldest one. If the driver counts the next slot as its oldest, the conditions hold, and the freed slot is the
-- driver's. The slots of `later` are still written back. The frames to be sent don't depend on which slot is the oldest.
pub record Freed (oldest_receive oldest_transmit : ℕ) (world : World) (slot : ℕ) (later : List ℕ) : Type 0 where
  pub stands : slot ≡ address_of (transmit_ring world) oldest_transmit
  pub sound : Sound oldest_receive (behind_oldest_transmit oldest_transmit world) world
  pub behind : written_back_slots (behind_oldest_transmit oldest_transmit world) world ≡ later
  pub first : outstanding (transmit_ring world) oldest_transmit ≡ slot
      ∷ outstanding (transmit_ring world) (behind_oldest_transmit oldest_transmit world)
  pub own : IsDriversSlot (transmit_ring world) (behind_oldest_transmit oldest_transmit world) oldest_transmit

-- If the conditions hold, `Freed` holds for the first written-back slot.
abbrev pub WrittenSlotsCanBeFreed : Type 0
WrittenSlotsCanBeFreed =
    (oldest_receive oldest_transmit : ℕ) (world : World) (slot : ℕ) (later : List ℕ)
    → Sound oldest_receive oldest_transmit world → written_back_slots oldest_transmit world ≡ slot ∷ later
    → Freed oldest_receive oldest_transmit world slot later
