use Rattle.std.proofs.Common.{◌≤◌, ◌-◌, ◌^◌, length}
use Rattle.adapter.specs.Keeping.{Keeps}
use Rattle.driver.specs.HandlerSteps.{scene}
use Rattle.driver.proofs.TakenFrames.{Walks}
use Rattle.driver.proofs.driver.Driver.take_finished.Given as goal

abbrev pub invariant-loop-run : goal.invariant-loop-run
invariant-loop-run g l = record {
  keeps : Keeps g.B.Bus l.initial.bus l.bus;
  walks : Walks g.B.Bus g.R.Receiver l.taken (scene l.initial.bus l.initial.self l.initial.receiver) (scene l.bus l.self l.receiver);
  few : l.taken ≤ 2 ^ 64 - 1 - length l.self.buffers;
}

abbrev pub decreases-loop-run : goal.decreases-loop-run
decreases-loop-run g l = length l.self.buffers
