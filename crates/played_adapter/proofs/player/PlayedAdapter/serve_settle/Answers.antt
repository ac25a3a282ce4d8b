use Rattle.played_adapter.specs.Playing.{AllArrive, Settles, most_cycles}
use Rattle.played_adapter.proofs.Telling.{tells_both}
use Rattle.played_adapter.proofs.player.PlayedAdapter.serve_settle.Goals as goal

pub returns : goal.returns
returns g c =
    tells_both g.O.Observer.heard g.met.O.Observer.composes (AllArrive c.args.self.now)
    (λ m rest. Settles most_cycles c.settle.result m c.settle.new.self rest) c.deliver_all.new.self c.args.observer.now
    c.deliver_all.new.observer c.settle.new.observer c.deliver_all.ensures c.settle.ensures
