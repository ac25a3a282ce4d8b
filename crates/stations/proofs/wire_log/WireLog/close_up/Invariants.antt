use Rattle.stations.proofs.ClosedLogs.{ClosesUp}
use Rattle.stations.proofs.wire_log.WireLog.close_up.Given as goal

abbrev pub invariant-loop-place : goal.invariant-loop-place
invariant-loop-place l = ClosesUp l.reader l.first l.second l.fn.self l.self-inside.entries.items l.kept l.place
