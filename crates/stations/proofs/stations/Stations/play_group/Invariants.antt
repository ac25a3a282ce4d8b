use Rattle.std.proofs.Common.{length}
use Rattle.stations.specs.AtomicSteps.{watched}
use Rattle.stations.proofs.TickLoops.{GroupPlayed}
use Rattle.stations.proofs.stations.Stations.play_group.Given as goal

abbrev pub invariant-loop-tick : goal.invariant-loop-tick
invariant-loop-tick g l = GroupPlayed g.O.Observer l.fn.ticks l.accesses l.rest (watched l.fn.self l.fn.observer)
    (watched l.self l.observer)

abbrev pub decreases-loop-tick : goal.decreases-loop-tick
decreases-loop-tick g l = length l.rest
