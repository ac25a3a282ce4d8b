use Rattle.std.proofs.Common.{◌≤◌, take}
use Rattle.played_adapter.specs.Order.{InOrder, Tells}
use Rattle.played_adapter.specs.Playing.{PlaysStepOfKind}
use Rattle.played_adapter.proofs.player.PlayedAdapter.play.Given as goal

abbrev pub invariant-loop-kind : goal.invariant-loop-kind
invariant-loop-kind g l = record {
  plays : Tells g.O.Observer.heard l.initial.observer l.observer
      (InOrder PlaysStepOfKind (take l.kind-index l.kinds) (l.initial.self, 0) (l.self, l.moved));
  few : l.moved ≤ l.kind-index;
}
