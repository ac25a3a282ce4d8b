use Rattle.std.proofs.Common.{◌≢◌, ◌<◌, ℕ}
use Rattle.stations.specs.LogReaders.{end_at}
use Rattle.stations.proofs.wires.log_for.Given as goal

-- no end before this place is an end of the wire
abbrev pub invariant-loop-end : goal.invariant-loop-end
invariant-loop-end l = (k : ℕ) → k < l.end-index → (end_at l.ends k).wire ≢ l.wire
