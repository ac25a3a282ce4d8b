use Rattle.played_adapter.proofs.Happening.{accessed}
use Rattle.played_adapter.proofs.player.PlayedAdapter.read_after_steps.Goals as goal

pub returns : goal.returns
returns g c =
    accessed g.O.Observer.heard g.met.O.Observer.composes _ c.args.self.now c.prepare_steps.new.self c.read_now.new.self c.args.observer.now
    c.prepare_steps.new.observer c.read_now.new.observer c.prepare_steps.ensures c.read_now.ensures
