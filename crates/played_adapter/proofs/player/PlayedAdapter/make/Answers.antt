use Rattle.std.proofs.Common.{refl}
use Rattle.played_adapter.specs.Playing.{Makes}
use Rattle.played_adapter.specs.declared.choices.Move.TheVariants.{Hold, Play, Tick}
use Rattle.played_adapter.proofs.Telling.{tells_none, tells_one}
use Rattle.played_adapter.proofs.player.PlayedAdapter.make.Goals as goal

pub returns-in_default : goal.returns-in_default
returns-in_default g c =
    rw c.in_default.is (tells_none Makes g.O.Observer.heard g.met.O.Observer.composes c.args.self.now c.args.observer.now)

pub returns-in-Tick : goal.returns-in-Tick
returns-in-Tick g c =
    let tells = c.step-outcome.ensures in
    rw (c.in-Some.is, c.in-Tick.is)
    (tells_one Makes g.O.Observer.heard g.met.O.Observer.composes (Tick c.in-Tick.kind) c.args.self.now c.step-outcome.new.self
    c.args.observer.now c.step-outcome.new.observer
    (record { told = tells.told; holds = (c.step-outcome.result, tells.holds); hears = tells.hears }))

pub returns-in-Hold : goal.returns-in-Hold
returns-in-Hold g c =
    rw (c.in-Some.is, c.in-Hold.is)
    (tells_one Makes g.O.Observer.heard g.met.O.Observer.composes (Hold c.in-Hold.action) c.args.self.now c.args.self.now
    c.args.observer.now c.noted.new.self (record { told = _; holds = (refl, refl); hears = c.noted.ensures }))

pub returns-in-Play : goal.returns-in-Play
returns-in-Play g c =
    rw (c.in-Some.is, c.in-Play.is)
    (tells_one Makes g.O.Observer.heard g.met.O.Observer.composes (Play c.in-Play.choice) c.args.self.now c.choose.new.self
    c.args.observer.now c.choose.new.observer c.choose.ensures)
