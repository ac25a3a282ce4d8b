use Rattle.std.proofs.Common.{take}
use Rattle.rx_filter.specs.NumberTables.{HasNumbers}
use Rattle.bring_up.proofs.filter_tables.vlan_table.Given as goal

abbrev pub invariant-loop-vlan : goal.invariant-loop-vlan
invariant-loop-vlan l = HasNumbers l.table (take l.vlan-index l.vlans)
