-- Which frames pass the receive filter (3.2.1 "Packet Address Filtering" and chapter 9, "802.1q VLAN Support"). The filter is given by sets
-- of addresses, group numbers and VLAN numbers.
use Rattle.std.specs.Prelude.{◌≡◌, ◌≢◌, ◌⊎◌, ℕ, List}
use Rattle.rx_filter.specs.Addresses.{destination, IsGroup, IsIndividual, broadcast, group_number, ether_type, vlan_number}

-- The sets of a receive filter, and its modes.
pub record ReceiveFilter : Type 1 where
  -- The receive addresses, of 6 bytes each.
  pub addresses : List ℕ → Type 0
  -- The group numbers, each below 4,096.
  pub groups : ℕ → Type 0
  -- The number of bits by which the last two bytes of an address are shifted right for its group number.
  pub shift : ℕ
  -- Frames of every VLAN pass: the VLAN filter is off (RCTL.VFE 0).
  pub every_vlan : Type 0
  -- The VLAN numbers that pass while the VLAN filter is on, each below 4,096.
  pub vlans : ℕ → Type 0
  -- The number in bytes 12 and 13 of a tagged frame.
  pub vlan_type : ℕ
  -- Every individual address is accepted.
  pub all_individuals : Type 0
  -- Every group address is accepted, including broadcast.
  pub all_groups : Type 0
  -- The broadcast address is accepted.
  pub broadcasts : Type 0

-- The filter accepts an address. A receive address is accepted. UPE accepts each individual address, MPE each group address, and BAM the
-- broadcast address. The group table is used only for group addresses, including the broadcast address (our choice).
unfoldable pub AcceptsAddress : ReceiveFilter → List ℕ → Type 0
AcceptsAddress filter address =
    filter.addresses address
    ⊎ ((IsGroup address × filter.groups (group_number filter.shift address))
    ⊎ ((IsIndividual address × filter.all_individuals)
    ⊎ ((IsGroup address × filter.all_groups)
    ⊎ ((address ≡ broadcast) × filter.broadcasts))))

-- The filter accepts this group address by MPE, BAM, or the group table.
unfoldable pub AcceptsGroup : ReceiveFilter → List ℕ → Type 0
AcceptsGroup filter address =
    filter.all_groups
    ⊎ (((address ≡ broadcast) × filter.broadcasts)
    ⊎ filter.groups (group_number filter.shift address))

-- The filter accepts the frame's VLAN: the VLAN filter is off, the frame has no tag, or the filter contains the frame's VLAN number.
unfoldable pub AcceptsVlan : ReceiveFilter → List ℕ → Type 0
AcceptsVlan filter frame =
    filter.every_vlan
    ⊎ ((ether_type frame ≢ filter.vlan_type)
    ⊎ filter.vlans (vlan_number frame))

-- A frame passes if the filter accepts both its destination and its VLAN.
pub record Passes (filter : ReceiveFilter) (frame : List ℕ) : Type 0 where
  -- The filter accepts the frame's destination address.
  pub address : AcceptsAddress filter (destination frame)
  -- The VLAN filter is off, or accepts the frame's VLAN, or the frame has no tag.
  pub vlan : AcceptsVlan filter frame
