use Rattle.std.proofs.Common.{arith, ℕ, subst}
use Rattle.played_adapter.specs.Playing.{Cycle}
use Rattle.played_adapter.specs.Order.{Tells}
use Rattle.played_adapter.proofs.Cycles.{BusyCycles, no_cycles, one_cycle, settled, settled_late}
use Rattle.played_adapter.proofs.player.PlayedAdapter.settle.Goals as goal

pub loop-cycle-init : goal.loop-cycle-init
loop-cycle-init g c = record {
  plays = no_cycles g.O.Observer.heard g.met.O.Observer.composes c.args.self.now c.args.observer.now;
  few = omega arith;
}

pub returns-then-moved-eq0 : goal.returns-then-moved-eq0
returns-then-moved-eq0 g c =
    let heard = g.O.Observer.heard in
    settled heard g.met.O.Observer.composes c.args.most c.loop-cycle._cycle c.loop-cycle.all c.args.self.now c.loop-cycle.self
    c.play-moved.new.self c.args.observer.now c.loop-cycle.observer c.play-moved.new.observer (omega arith)
    c.loop-cycle.invariant.plays
    (subst (λ (n : ℕ). Tells heard c.loop-cycle.observer c.play-moved.new.observer (Cycle n c.loop-cycle.self c.play-moved.new.self))
    (omega arith) c.play-moved.ensures.plays)

pub loop-cycle-preserved : goal.loop-cycle-preserved
loop-cycle-preserved g c = record {
  plays = one_cycle g.O.Observer.heard g.met.O.Observer.composes c.loop-cycle._cycle c.loop-cycle.all c.play-moved.result
      c.args.self.now c.loop-cycle.self c.play-moved.new.self c.args.observer.now c.loop-cycle.observer c.play-moved.new.observer
      c.loop-cycle.invariant.plays c.play-moved.ensures.plays (omega arith);
  few = omega (arith, c.play-moved.ensures.few);
}

pub returns : goal.returns
returns g c =
    let heard = g.O.Observer.heard in
    let laws = g.met.O.Observer.composes in
    settled_late heard laws c.args.most c.loop-cycle.all c.args.self.now c.loop-cycle.self c.args.observer.now c.loop-cycle.observer
    (subst (λ (n : ℕ). BusyCycles heard laws n c.loop-cycle.all c.args.self.now c.loop-cycle.self c.args.observer.now
    c.loop-cycle.observer) (omega arith) c.loop-cycle.invariant.plays)
