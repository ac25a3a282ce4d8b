use Rattle.played_adapter.specs.Order.{Tells, Times}
use Rattle.played_adapter.specs.Playing.{NextArrives}
use Rattle.played_adapter.proofs.player.PlayedAdapter.deliver_all.Given as goal

abbrev pub invariant-loop-frame : goal.invariant-loop-frame
invariant-loop-frame g l = Tells g.O.Observer.heard l.initial.observer l.observer (Times NextArrives l._frame l.initial.self l.self)
