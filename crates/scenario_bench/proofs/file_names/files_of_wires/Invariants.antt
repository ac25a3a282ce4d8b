use Rattle.std.proofs.Common.{◌≡◌, length}
use Rattle.scenario_bench.proofs.file_names.files_of_wires.Given as goal

abbrev pub invariant-loop-wire : goal.invariant-loop-wire
invariant-loop-wire l = length l.names.items ≡ l.wire-index
