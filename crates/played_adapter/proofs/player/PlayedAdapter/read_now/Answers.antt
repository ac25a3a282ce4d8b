use Rattle.played_adapter.proofs.Happening.{alone}
use Rattle.played_adapter.proofs.player.PlayedAdapter.read_now.Goals as goal

pub returns : goal.returns
returns g c =
    alone g.O.Observer.heard g.met.O.Observer.composes _ c.args.self.now c.report.new.self _ c.args.observer.now c.read.new.self
    c.report.new.observer c.read-value.ensures.occurs
    c.read-value.ensures.state c.read.ensures c.report.ensures
