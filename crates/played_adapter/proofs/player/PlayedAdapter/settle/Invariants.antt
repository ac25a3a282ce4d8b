use Rattle.std.proofs.Common.{◌≤◌, ◌*◌}
use Rattle.played_adapter.proofs.Cycles.{BusyCycles}
use Rattle.played_adapter.proofs.player.PlayedAdapter.settle.Given as goal

abbrev pub invariant-loop-cycle : goal.invariant-loop-cycle
invariant-loop-cycle g l = record {
  plays : BusyCycles g.O.Observer.heard g.met.O.Observer.composes l._cycle l.all l.initial.self l.self l.initial.observer l.observer;
  few : l.all ≤ 6 * l._cycle;
}
