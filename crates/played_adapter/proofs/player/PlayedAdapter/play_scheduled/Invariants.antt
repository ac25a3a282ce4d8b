use Rattle.std.proofs.Common.{length}
use Rattle.played_adapter.proofs.Schedules.{Scheduled}
use Rattle.played_adapter.proofs.player.PlayedAdapter.play_scheduled.Given as goal

abbrev pub invariant-loop-front : goal.invariant-loop-front
invariant-loop-front g l = Scheduled g.O.Observer.heard g.met.O.Observer.composes l.fn.self l.self l.fn.observer l.observer

abbrev pub decreases-loop-front : goal.decreases-loop-front
decreases-loop-front g l = length l.self.scheduled.items
