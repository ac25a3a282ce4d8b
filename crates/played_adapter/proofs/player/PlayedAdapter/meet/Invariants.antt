use Rattle.std.proofs.Common.{flat_map, map, take}
use Rattle.step_schedules.specs.Events.{event_value}
use Rattle.step_schedules.specs.Waiting.{due_before, waiting_value}
use Rattle.played_adapter.specs.Moves.{moves_of}
use Rattle.played_adapter.specs.Order.{InOrder, Tells}
use Rattle.played_adapter.specs.Playing.{Makes}
use Rattle.played_adapter.proofs.player.PlayedAdapter.meet.Given as goal

abbrev pub invariant-loop-one : goal.invariant-loop-one
invariant-loop-one g l =
    Tells g.O.Observer.heard l.initial.observer l.observer (InOrder Makes
    (flat_map moves_of (due_before (event_value l.event) (map waiting_value (take l.one-index l.waiting)))) l.initial.self l.self)
