use Rattle.stations.specs.LogReaders.{IsLeastCursor}
use Rattle.stations.proofs.wires.least_cursor.Given as goal

abbrev pub invariant-loop-number : goal.invariant-loop-number
invariant-loop-number l = IsLeastCursor l.number l.log l.but l.most l.ends l.least
