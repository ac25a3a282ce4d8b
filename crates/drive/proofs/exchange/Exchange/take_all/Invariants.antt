use Rattle.drive.specs.Exchanging.{moment_of}
use Rattle.drive.proofs.Exchanges.{GoesOn}
use Rattle.drive.proofs.exchange.Exchange.take_all.Given as goal

abbrev pub invariant-loop-count : goal.invariant-loop-count
invariant-loop-count g l = GoesOn g.B.Bus (moment_of l.initial.bus l.initial.self (g.S.Sink.taken l.initial.sink))
    (moment_of l.bus l.self (g.S.Sink.taken l.sink)) (g.S.Sink.failures l.initial.sink) (g.S.Sink.failures l.sink)
