-- What happened in an interval (our choice).
use Rattle.std.specs.Prelude.{ℕ, ◌+◌, List, [], ◌++◌}
use Rattle.bus.specs.declared.event.Access.{Access}

-- What happened in an interval.
pub record Past : Type 0 where
  -- The frames that the adapter put onto the wire.
  pub put : List (List ℕ)
  -- The frames from the wire that were stored in the adapter's packet buffer.
  pub stored : List (List ℕ)
  -- The number of frames that the adapter missed.
  pub missed : ℕ
  -- The number of ticks of the EEPROM.
  pub eeprom_ticks : ℕ
  -- The number of ticks of the PHY.
  pub phy_ticks : ℕ
  -- The accesses of the driver.
  pub accesses : List Access

-- The interval in which nothing happened.
abbrev pub nothing : Past
nothing = record { put = []; stored = []; missed = 0; eeprom_ticks = 0; phy_ticks = 0; accesses = [] }

-- What happened in two consecutive intervals, together.
abbrev pub joined : Past → Past → Past
joined first later = record {
  put = first.put ++ later.put;
  stored = first.stored ++ later.stored;
  missed = first.missed + later.missed;
  eeprom_ticks = first.eeprom_ticks + later.eeprom_ticks;
  phy_ticks = first.phy_ticks + later.phy_ticks;
  accesses = first.accesses ++ later.accesses;
}
