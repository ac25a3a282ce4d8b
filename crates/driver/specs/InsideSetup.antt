-- How `Setup` stores the setup of a driver (our choice).
use Rattle.std.specs.Prelude.{◌<◌, All}
use Rattle.rx_filter.specs.NumberTables.{table_numbers}
use Rattle.adapter.specs.PacketBuffer.{IsAllocation}
use Rattle.bring_up.specs.Configuration.{vlans_of}
use Rattle.bring_up.specs.ConfiguredAdapters.{names_vlans}
use Rattle.adapter.specs.DriverState.{DriverSetup}
use Rattle.driver.specs.declared.setup.Setup.{Setup}

-- The driver's setup in contracts, from a stored `Setup`. If `Setup.vlans` is `None`, `by_vlan` is false, and `vlans` is empty.
abbrev pub setup_in : Setup → DriverSetup
setup_in setup = record {
  rxa = setup.rxa;
  promiscuous = setup.promiscuous;
  by_vlan = names_vlans setup.vlans;
  vlans = vlans_of setup.vlans;
  address = setup.address;
}

-- The value of RXA is valid, and each VLAN has 12 bits.
pub record IsRightSetup (setup : Setup) : Type 0 where
  -- RXA is even, from 2 to 48
  pub allocation : IsAllocation setup.rxa
  -- each VLAN is below 4,096
  pub vlans : All (λ vlan. vlan < table_numbers) (vlans_of setup.vlans)
