use Rattle.played_adapter.proofs.Happening.{alone}
use Rattle.played_adapter.proofs.player.PlayedAdapter.write_now.Goals as goal

pub returns : goal.returns
returns g c =
    alone g.O.Observer.heard g.met.O.Observer.composes _ c.args.self.now c.report.new.self _ c.args.observer.now c.written.new.self
    c.report.new.observer tt c.write.ensures.state
    c.written.ensures c.report.ensures
