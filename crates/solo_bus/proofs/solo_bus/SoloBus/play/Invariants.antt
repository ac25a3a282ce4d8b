use Rattle.std.proofs.Common.{◌≡◌, ◌++◌, take}
use Rattle.solo_bus.specs.SoloView.{HasQueues, solo_of}
use Rattle.solo_bus.proofs.solo_bus.SoloBus.play.Given as goal

abbrev pub invariant-loop-tick : goal.invariant-loop-tick
invariant-loop-tick l = record {
  state : solo_of l.self-inside ≡ record l.fn.self { waiting = l.fn.self.waiting ++ take l.tick-index l.ticks };
  queues : HasQueues l.self-inside;
}
