use Rattle.adapter.specs.bus_types.event.Access.TheVariants.{Reads}
use Rattle.played_adapter.proofs.Choosing.{served}
use Rattle.played_adapter.proofs.player.PlayedAdapter.serve_read.Goals as goal

pub returns : goal.returns
returns g c =
    served g.O.Observer.heard g.met.O.Observer.composes (Reads c.args.offset c.read_now-value.result) c.args.self.now
    c.interleave_steps.new.self c.read_now-value.new.self c.pace_cycles.new.self c.args.observer.now c.interleave_steps.new.observer
    c.read_now-value.new.observer c.pace_cycles.new.observer c.interleave_steps.ensures c.read_now-value.ensures c.pace_cycles.ensures
