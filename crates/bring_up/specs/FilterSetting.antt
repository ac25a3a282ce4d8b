-- The receive filter is set up.
use Rattle.std.specs.Prelude.{◌≡◌, ◌++◌, ℕ, List}
use Rattle.adapter.specs.model_types.offsets.TheConstants.{MTA, VFTA}
use Rattle.rx_filter.specs.Addresses.{IsAddress}
use Rattle.rx_filter.specs.NumberTables.{HasNumbers, numbers_of_groups}
use Rattle.adapter.specs.bus_types.bus.Bus.{Ghosts}
use Rattle.bring_up.specs.ConfiguredAdapters.{AreWords}
use Rattle.bring_up.specs.DriverSteps.{accesses_of}
use Rattle.bring_up.specs.FilterTables.{address_writes, table_writes}
use Rattle.bring_up.specs.SettingSteps.{Sets}

-- MTA is written with exactly the bits of the groups `named`, and VFTA with exactly those of the VLANs `named_vlans`.
-- Then the receive addresses are written with `address`. There is no other access.
pub record SetsFilter {B : Type 0} (bus : Ghosts B) (named : List (List ℕ)) (named_vlans address : List ℕ) (old new : B) : Type 0 where
  -- the words written to MTA, and those written to VFTA
  pub groups : List ℕ
  pub vlans : List ℕ
  pub sets : Sets bus (table_writes MTA groups ++ (table_writes VFTA vlans ++ address_writes address)) old new
  pub only : sets.past.accesses ≡ accesses_of (table_writes MTA groups ++ (table_writes VFTA vlans ++ address_writes address))
  pub has_groups : HasNumbers groups (numbers_of_groups named)
  pub has_vlans : HasNumbers vlans named_vlans
  pub groups_are : AreWords groups
  pub vlans_are : AreWords vlans
  pub address_is : IsAddress address
