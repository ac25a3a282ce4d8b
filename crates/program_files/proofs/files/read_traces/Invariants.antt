use Rattle.std.proofs.Common.{◌≡◌, length}
use Rattle.program_files.proofs.files.read_traces.Given as goal

abbrev pub invariant-loop-path : goal.invariant-loop-path
invariant-loop-path g l = length l.traces.items ≡ l.path-index
