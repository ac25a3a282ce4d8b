-- Statements about the ghost members of a bus, for the clauses of the trait `Bus` (src/bus.rt). The trait can't import its own `Ghosts`,
-- so each record takes the members that it uses.
use Rattle.std.specs.Prelude.{◌≡◌, ℕ}
use Rattle.bus.specs.Pasts.{Past, joined, nothing}

-- The properties of a bus that no access changes.
pub record KeepsProperties {B : Type 0} (size : B → ℕ) (same_lent : B → B → Type 0) (is_honest is_lively : B
    → Type 0) (old new : B) : Type 0 where
  -- The size of the bus's memory doesn't change.
  pub extent : size new ≡ size old
  -- The values that a caller lent to the bus don't change.
  pub lent_stays : same_lent old new
  -- If the bus obeyed the law, it still does.
  pub honest : is_honest old → is_honest new
  -- If the bus was lively, it still is: it plays a tick of the EEPROM and a tick of the PHY before each access.
  pub lively : is_lively old → is_lively new

-- How the reports of a bus, and the values lent to it, compose over consecutive intervals.
pub record Composes {B : Type 0} (reports : B → B → Past → Type 0) (same_lent : B → B → Type 0) : Type 0 where
  -- From a state to itself, the bus reports that nothing happened.
  pub stays : (b : B) → reports b b nothing
  -- If the bus reports of two consecutive intervals, the joined reports are a report of both intervals together.
  pub joins : (a b c : B) (first later : Past) → reports a b first → reports b c later → reports a c (joined first later)
  -- From a state to itself, the values lent are the same.
  pub lent_stays_here : (b : B) → same_lent b b
  -- If the values lent are the same over each of two consecutive intervals, they are the same over both together.
  pub lent_stays_on : (a b c : B) → same_lent a b → same_lent b c → same_lent a c
