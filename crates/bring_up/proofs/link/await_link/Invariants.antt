use Rattle.adapter.specs.Keeping.{Keeps}
use Rattle.bring_up.proofs.Negotiations.{Awaits}
use Rattle.bring_up.proofs.link.await_link.Given as goal

abbrev pub invariant-loop : goal.invariant-loop
invariant-loop g l = record {
  keeps : Keeps g.B.Bus l.fn.bus l.bus;
  awaits : g.B.Bus.honest l.fn.bus → Awaits g.B.Bus l.fn.bus l.bus l.counter;
}
