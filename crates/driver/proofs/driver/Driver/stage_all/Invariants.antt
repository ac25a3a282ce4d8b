use Rattle.std.proofs.Common.{◌+◌, ◌-◌, length}
use Rattle.adapter.specs.Keeping.{Keeps}
use Rattle.adapter.specs.Calls.{at}
use Rattle.driver.specs.RefillSteps.{StagesSome}
use Rattle.driver.proofs.driver.Driver.stage_all.Given as goal

abbrev pub invariant-loop : goal.invariant-loop
invariant-loop g l = record {
  keeps : Keeps g.B.Bus l.initial.bus l.bus;
  stages : StagesSome g.B.Bus (at l.initial.bus l.initial.self) (at l.bus l.self);
}

abbrev pub decreases-loop : goal.decreases-loop
decreases-loop g l = l.self.layout.rx - (length l.self.buffers + length l.self.staged)
