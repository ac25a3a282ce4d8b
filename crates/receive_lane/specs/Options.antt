-- The receive filter that the options of a pass ask for. (our choice)
use Rattle.std.specs.Prelude.{◌≡◌, ◌≤◌, ℕ, List, Some, None, IfSome}
use Rattle.rx_filter.specs.Addresses.{group_number}
use Rattle.rx_filter.specs.Passing.{ReceiveFilter, Passes}
use Rattle.receive_lane.specs.declared.filter.PassFilter.{PassFilter}
use Rattle.rx_filter.specs.declared.filter.TheConstants.{VLAN_TYPE}

-- neither an address nor a group is given, so the filter accepts every address
abbrev pub IsOpen : PassFilter → Type 0
IsOpen options = (options.address ≡ None) × (options.group ≡ None)

-- The only receive address is the given address, and the only number in the group table is bits 47 to 36 of the given group's address. If
-- no address is given, there is no receive address; if no group is given, the group table is empty. If a VLAN is given, only its number is
-- in the VLAN table; otherwise every VLAN is accepted. Broadcast is accepted, and every address if neither an address nor a group is given.
abbrev pub filter_for : PassFilter → ReceiveFilter
filter_for options = record {
  addresses = λ address. options.address ≡ Some address;
  groups = λ number. (group : List ℕ) × (options.group ≡ Some group) × (number ≡ group_number 4 group);
  shift = 4;
  every_vlan = options.vlan ≡ None;
  vlans = λ number. options.vlan ≡ Some number;
  vlan_type = VLAN_TYPE;
  all_individuals = IsOpen options;
  all_groups = IsOpen options;
  broadcasts = Unit {0};
}

-- the filter for these options passes this frame
abbrev pub KeptBy : PassFilter → List ℕ → Type 0
KeptBy options frame = Passes (filter_for options) frame

-- If a VLAN is given, its number has at most 12 bits.
abbrev pub HasVlanNumber : PassFilter → Type 0
HasVlanNumber options = IfSome options.vlan (λ n. n ≤ 4095)
