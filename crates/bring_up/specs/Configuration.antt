-- Which configurations are valid. What the manual leaves open is our choice.
use Rattle.std.specs.Prelude.{◌≤◌, ◌<◌, ℕ, List, [], All, Option, None, Some}
use Rattle.dma_memory.specs.Layout.{Counts, IsAllowed, size_of}
use Rattle.rx_filter.specs.Addresses.{IsGroup}
use Rattle.rx_filter.specs.NumberTables.{table_numbers}
use Rattle.adapter.specs.PacketBuffer.{IsAllocation}
use Rattle.arrayvec.specs.declared.array_vec.ArrayVec.{ArrayVec}
use Rattle.bring_up.specs.declared.config.Config.{Config}
use Rattle.bring_up.specs.declared.config.TheConstants.{MOST_VLANS}

-- The sizes of the rings, and the number of receive buffers, of a configuration.
abbrev pub configured_counts : Config → Counts
configured_counts config = record { rx = config.rx; tx = config.tx; buffers = config.buffers }

-- The VLANs of a configuration; an empty list if tagged frames of all VLANs pass.
abbrev pub vlans_of : Option (ArrayVec ℕ MOST_VLANS (Unit {0})) → List ℕ
vlans_of None = []
vlans_of (Some vlans) = vlans.items

-- RXA, the groups and the VLANs are valid.
pub record HasRightNumbers (config : Config) : Type 0 where
  -- RXA is even, from 2 to 48
  pub allocation : IsAllocation config.rxa
  -- each group has the low bit of its first byte set
  pub groups : All IsGroup config.groups.items
  -- each VLAN is below 4,096
  pub vlans : All (λ vlan. vlan < table_numbers) (vlans_of config.vlans)

-- The configuration is valid in a memory of `size` bytes.
pub record IsValidIn (config : Config) (size : ℕ) : Type 0 where
  -- the sizes of the rings and the number of receive buffers are valid
  pub counts : IsAllowed (configured_counts config)
  -- RXA, groups and VLANs are valid
  pub numbers : HasRightNumbers config
  -- memory has room for the layout
  pub room : size_of (configured_counts config) ≤ size
