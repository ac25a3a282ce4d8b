use Rattle.std.proofs.Common.{rules}
use Rattle.host_calls.specs.Networks.{connected_at}
use Rattle.host_calls.specs.Notes.{NotesTicks}
use Rattle.host_calls.proofs.ResetNetworks.{runs-told, told-back}
use Rattle.host_calls.proofs.network.Network.reset_noting.Goals as goal

pub returns-clause-runs : goal.returns-clause-runs
returns-clause-runs g c =
    runs-told c.args.number c.reset_over.result c.args.ticks.now _ _ (connected_at c.args.self.now c.args.number)
    (connected_at c.reset_over.new.self c.args.number)
    (λ told heard. (
      told-back (λ now. g.O.Observer.heard c.args.observer.now now told) c.reset_over.new.noting.observer.now _ (search rules) heard.tells,
      told-back (λ now. NotesTicks c.args.noted.now now told) c.reset_over.new.noting.noted.now _ (search rules) heard.notes,
    ))
    (c.reset_over.ensures.runs c.requires.ready)
