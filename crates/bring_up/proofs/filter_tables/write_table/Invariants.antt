use Rattle.std.proofs.Common.{◌≡◌, ◌+◌, ◌*◌, take}
use Rattle.adapter.specs.Keeping.{Keeps}
use Rattle.bring_up.specs.FilterTables.{table_writes}
use Rattle.bring_up.specs.SettingSteps.{SetsOnly}
use Rattle.bring_up.proofs.filter_tables.write_table.Given as goal

abbrev pub invariant-loop-word : goal.invariant-loop-word
invariant-loop-word g l = record {
  offset : l.offset ≡ l.first + 4 * l.word-index;
  keeps : Keeps g.B.Bus l.initial.bus l.bus;
  sets : g.B.Bus.honest l.initial.bus → SetsOnly g.B.Bus (table_writes l.first (take l.word-index l.words)) l.initial.bus l.bus;
}
