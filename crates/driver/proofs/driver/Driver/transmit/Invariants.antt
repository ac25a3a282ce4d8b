use Rattle.adapter.specs.Keeping.{Keeps}
use Rattle.adapter.specs.Calls.{at}
use Rattle.driver.proofs.FreedSlots.{HasFreed}
use Rattle.driver.proofs.driver.Driver.transmit.Given as goal

abbrev pub invariant-loop : goal.invariant-loop
invariant-loop g l = record {
  keeps : Keeps g.B.Bus l.initial.bus l.bus;
  freed : HasFreed g.B.Bus (at l.initial.bus l.initial.self) (at l.bus l.self);
}

abbrev pub decreases-loop : goal.decreases-loop
decreases-loop g l = l.self.sending
