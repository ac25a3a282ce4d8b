use Rattle.played_adapter.specs.Playing.{Arrives, Paced}
use Rattle.played_adapter.proofs.Telling.{tells_both}
use Rattle.played_adapter.proofs.player.PlayedAdapter.serve_arrival.Goals as goal

pub returns : goal.returns
returns g c =
    tells_both g.O.Observer.heard g.met.O.Observer.composes (Arrives c.args.frame.now c.arrive-fate.result c.args.self.now)
    (λ m rest. Paced m c.pace_cycles.new.self rest) c.arrive-fate.new.self c.args.observer.now c.arrive-fate.new.observer
    c.pace_cycles.new.observer c.arrive-fate.ensures c.pace_cycles.ensures
