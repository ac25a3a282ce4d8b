-- What may happen in consecutive intervals between two accesses.
use Rattle.std.specs.Prelude.{ℕ}
use Rattle.adapter_model.specs.Conditions.{Sound}
use Rattle.bus.specs.Law.{Happens}
use Rattle.bus.specs.Pasts.{Past, joined, nothing}
use Rattle.adapter_model.specs.World.{World}

-- What happens in two consecutive intervals happens in the joined interval.
abbrev pub HappeningsJoin : Type 0
HappeningsJoin = (a b c : World) (first later : Past) → Happens a b first → Happens b c later → Happens a c (joined first later)

-- An interval may be empty: nothing happens in it.
abbrev pub NothingHappens : Type 0
NothingHappens = (a : World) → Happens a a nothing

-- If the conditions hold before an interval, they hold after it.
abbrev pub SoundStays : Type 0
SoundStays = (oldest_receive oldest_transmit : ℕ) (a b : World) (past : Past) → Happens a b past → Sound oldest_receive oldest_transmit a
    → Sound oldest_receive oldest_transmit b
