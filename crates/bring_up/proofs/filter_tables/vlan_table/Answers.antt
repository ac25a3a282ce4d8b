use Rattle.std.proofs.Common.{subst, arith}
use Rattle.rx_filter.specs.NumberTables.{HasNumbers}
use Rattle.bring_up.proofs.Tables.{no-numbers, one-number-more, take-all, take-more}
use Rattle.bring_up.proofs.filter_tables.vlan_table.Goals as goal

pub loop-vlan-init : goal.loop-vlan-init
loop-vlan-init c = no-numbers c.empty_table-table.ensures

pub loop-vlan-preserved : goal.loop-vlan-preserved
loop-vlan-preserved c =
    one-number-more c.add_number.ensures (c.requires c.loop-vlan.vlan-index 0 c.loop-vlan-test.true)
    (take-more c.args.vlans.now c.loop-vlan.vlan-index 0 c.loop-vlan-test.true) c.loop-vlan.invariant

pub returns : goal.returns
returns c = subst (HasNumbers c.loop-vlan.table)
    (take-all c.args.vlans.now (omega (arith, c.loop-vlan.auto, c.loop-vlan-test.false))) c.loop-vlan.invariant
