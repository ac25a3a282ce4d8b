use Rattle.std.proofs.Common.{◌≡◌, ◌∙◌, ℕ, arith, subst}
use Rattle.played_adapter.specs.Order.{Tells, Times}
use Rattle.played_adapter.specs.Playing.{NextArrives}
use Rattle.played_adapter.proofs.Telling.{tells_none, times_more}
use Rattle.played_adapter.proofs.player.PlayedAdapter.deliver_all.Goals as goal

pub loop-frame-init : goal.loop-frame-init
loop-frame-init g c =
    tells_none (λ (turn : ℕ). NextArrives) g.O.Observer.heard g.met.O.Observer.composes c.args.self.now c.args.observer.now

pub loop-frame-preserved : goal.loop-frame-preserved
loop-frame-preserved g c =
    times_more NextArrives g.O.Observer.heard g.met.O.Observer.composes c.loop-frame._frame c.args.self.now c.loop-frame.self
    c.deliver_next.new.self c.args.observer.now c.loop-frame.observer c.deliver_next.new.observer c.loop-frame.invariant
    c.deliver_next.ensures

pub returns : goal.returns
returns g c =
    let played : c.loop-frame._frame ≡ c.len-count.result = omega arith in
    subst
    (λ (n : ℕ). Tells g.O.Observer.heard c.args.observer.now c.loop-frame.observer (Times NextArrives n c.args.self.now c.loop-frame.self))
    (played ∙ c.len-count.ensures) c.loop-frame.invariant
