use Rattle.adapter.specs.Keeping.{Keeps}
use Rattle.bring_up.proofs.PhyCommands.{Waits}
use Rattle.bring_up.proofs.link.command.Given as goal

abbrev pub invariant-loop : goal.invariant-loop
invariant-loop g l = record {
  keeps : Keeps g.B.Bus l.fn.bus l.bus;
  waits : g.B.Bus.honest l.fn.bus → Waits g.B.Bus l.fn.bus l.bus l.word l.counter;
}
