use Rattle.stations.specs.LogReaders.{IsSlowest}
use Rattle.stations.proofs.wires.slowest.Given as goal

abbrev pub invariant-loop-number : goal.invariant-loop-number
invariant-loop-number l = IsSlowest l.number l.log l.ends l.reader
