use Rattle.std.proofs.Common.{take}
use Rattle.rx_filter.specs.NumberTables.{HasNumbers, numbers_of_groups}
use Rattle.bring_up.proofs.filter_tables.group_table.Given as goal

abbrev pub invariant-loop-group : goal.invariant-loop-group
invariant-loop-group l = HasNumbers l.table (numbers_of_groups (take l.group-index l.groups))
