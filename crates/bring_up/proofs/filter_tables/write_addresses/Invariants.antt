use Rattle.std.proofs.Common.{◌-◌}
use Rattle.adapter.specs.Keeping.{Keeps}
use Rattle.bring_up.specs.FilterTables.{empty_entries}
use Rattle.bring_up.specs.SettingSteps.{SetsOnly}
use Rattle.bring_up.proofs.filter_tables.write_addresses.Given as goal

abbrev pub invariant-loop-entry : goal.invariant-loop-entry
invariant-loop-entry g l = record {
  keeps : Keeps g.B.Bus l.initial.bus l.bus;
  sets : g.B.Bus.honest l.initial.bus → SetsOnly g.B.Bus (empty_entries 1 (l.entry - 1)) l.initial.bus l.bus;
}
