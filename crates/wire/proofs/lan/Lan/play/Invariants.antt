use Rattle.std.proofs.Common.{take}
use Rattle.wire.specs.Runs.{RunTold}
use Rattle.wire.proofs.lan.Lan.play.Given as goal

abbrev pub invariant-loop-done : goal.invariant-loop-done
invariant-loop-done g l = RunTold g.O.RunObserver.ran (take l.done l.events) l.fn.self l.self l.fn.observer l.observer
