use Rattle.bring_up.specs.FilterTables.{address_writes, table_writes}
use Rattle.bring_up.proofs.Steps.{only-join}
use Rattle.bring_up.proofs.filter_setting.set_filter.Goals as goal

pub returns-clause-sets : goal.returns-clause-sets
returns-clause-sets g c honest =
    let joins = g.met.B.Bus.composes.joins in
    let still = c.write_groups.ensures.keeps.honest honest in
    let groups = c.group_table-groups.result in
    let vlans = c.vlan_table-vlans.result in
    let all =
    only-join g.B.Bus joins c.args.bus.now c.write_groups.new.bus c.write_addresses.new.bus (table_writes 0x5200 groups) _
    (c.write_groups.ensures.sets honest)
    (only-join g.B.Bus joins c.write_groups.new.bus c.write_vlans.new.bus c.write_addresses.new.bus (table_writes 0x5600 vlans)
    (address_writes c.args.address.now)
    (c.write_vlans.ensures.sets still) (c.write_addresses.ensures.sets (c.write_vlans.ensures.keeps.honest still))) in
    record {
      groups = groups;
      vlans = vlans;
      sets = all.sets;
      only = all.only;
      has_groups = c.group_table-groups.ensures;
      has_vlans = c.vlan_table-vlans.ensures;
      groups_are = c.write_groups.ensures.words;
      vlans_are = c.write_vlans.ensures.words;
      address_is = c.write_addresses.ensures.address;
    }
