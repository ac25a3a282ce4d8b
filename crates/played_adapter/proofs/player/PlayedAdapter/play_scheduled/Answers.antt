use Rattle.std.proofs.Common.{ap, refl, sym}
use Rattle.played_adapter.proofs.Schedules.{all_scheduled, first_is_due, first_is_late, none_scheduled, none_waits, one_scheduled}
use Rattle.played_adapter.proofs.player.PlayedAdapter.play_scheduled.Goals as goal

pub loop-front-init : goal.loop-front-init
loop-front-init g c = none_scheduled g.O.Observer.heard g.met.O.Observer.composes c.args.self.now c.args.observer.now

pub loop-front-preserved : goal.loop-front-preserved
loop-front-preserved g c =
    let now = c.loop-front.self in
    one_scheduled g.O.Observer.heard g.met.O.Observer.composes _ now _ c.step.new.self c.in-Some.front.now c.step.result
    c.args.observer.now c.loop-front.observer c.step.new.observer c.loop-front.invariant
    (first_is_due now.accesses now.scheduled.items c.in-Some.front.now (sym c.in-Some.ensures) c.if-step-self.false)
    (ap (λ scheduled. record now { scheduled = scheduled }) c.pop_front.ensures.items) c.step.ensures

pub returns-then-step-self : goal.returns-then-step-self
returns-then-step-self g c =
    let now = c.loop-front.self in
    all_scheduled g.O.Observer.heard g.met.O.Observer.composes _ now now c.args.observer.now c.loop-front.observer c.loop-front.invariant
    (first_is_late now.accesses now.scheduled.items c.in-Some.front.now (sym c.in-Some.ensures) c.if-step-self.true) refl

pub returns : goal.returns
returns g c =
    let now = c.loop-front.self in
    all_scheduled g.O.Observer.heard g.met.O.Observer.composes _ now now c.args.observer.now c.loop-front.observer c.loop-front.invariant
    (none_waits now.accesses now.scheduled.items (sym c.in_default.ensures)) refl
