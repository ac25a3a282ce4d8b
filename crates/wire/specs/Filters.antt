-- The receive filter of a plan (3.2.1 "Packet Address Filtering" and chapter 9, "802.1q VLAN Support").
use Rattle.std.specs.Prelude.{⊤, ◌≡◌, false, true}
use Rattle.std.specs.List.{Contains}
use Rattle.eeprom.specs.Image.{address_bytes}
use Rattle.registers.specs.ReceiveControl.{shift_of}
use Rattle.registers.specs.declared.receive_control.GroupOffset.TheVariants.{Bits47To36}
use Rattle.rx_filter.specs.Laws.{SameSets}
use Rattle.rx_filter.specs.NumberTables.{numbers_of_groups}
use Rattle.rx_filter.specs.Passing.{ReceiveFilter}
use Rattle.rx_filter.specs.Registers.{FilterRegisters, filter_of}
use Rattle.rx_filter.specs.declared.filter.TheConstants.{VLAN_TYPE}
use Rattle.bring_up.specs.Configuration.{vlans_of}
use Rattle.bring_up.specs.ConfiguredAdapters.{names_vlans}
use Rattle.network_plan.specs.declared.plan.HostPlan.{HostPlan}

-- The receive filter of a plan passes frames to the address in the EEPROM, and broadcast frames. The filter also passes
-- frames to each group address that has the group number of a configured group (RCTL.MO 00). If the host is
-- promiscuous, the filter passes frames to any address. If the configuration has a list of VLANs, a tagged frame passes
-- only if the frame's VLAN is in this list.
abbrev pub plans_filter : HostPlan → ReceiveFilter
plans_filter plan = record {
  addresses = λ address. address ≡ address_bytes plan.image;
  groups = λ number. Contains (numbers_of_groups plan.config.groups.items) number;
  shift = shift_of Bits47To36;
  every_vlan = names_vlans plan.config.vlans ≡ false;
  vlans = λ number. Contains (vlans_of plan.config.vlans) number;
  vlan_type = VLAN_TYPE;
  all_individuals = plan.config.promiscuous ≡ true;
  all_groups = plan.config.promiscuous ≡ true;
  broadcasts = ⊤;
}

-- The filter of these registers has the same sets and modes as the plan's receive filter (`SameSets`). The registers
-- may differ.
abbrev pub HasPlansFilter : HostPlan → FilterRegisters → Type 0
HasPlansFilter plan registers = SameSets (filter_of registers) (plans_filter plan)
