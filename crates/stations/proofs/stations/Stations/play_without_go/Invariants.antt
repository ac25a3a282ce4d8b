use Rattle.std.proofs.Common.{length}
use Rattle.stations.specs.AtomicSteps.{watched}
use Rattle.stations.proofs.TickLoops.{AllPlayed}
use Rattle.stations.proofs.stations.Stations.play_without_go.Given as goal

abbrev pub invariant-loop-rest : goal.invariant-loop-rest
invariant-loop-rest g l = AllPlayed g.O.Observer l.fn.ticks l.accesses l.rest (watched l.fn.self l.fn.observer) (watched l.self l.observer)

abbrev pub decreases-loop-rest : goal.decreases-loop-rest
decreases-loop-rest g l = length l.rest
