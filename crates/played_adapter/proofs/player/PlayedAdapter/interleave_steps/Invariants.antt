use Rattle.played_adapter.specs.Order.{Tells, Times}
use Rattle.played_adapter.specs.Playing.{DrawsChoice}
use Rattle.played_adapter.proofs.player.PlayedAdapter.interleave_steps.Given as goal

abbrev pub invariant-loop-step : goal.invariant-loop-step
invariant-loop-step g l = Tells g.O.Observer.heard l.initial.observer l.observer (Times DrawsChoice l._step l.initial.self l.self)
