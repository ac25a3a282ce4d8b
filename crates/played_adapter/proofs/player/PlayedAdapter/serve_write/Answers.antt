use Rattle.adapter.specs.bus_types.event.Access.TheVariants.{Writes}
use Rattle.played_adapter.proofs.Choosing.{served}
use Rattle.played_adapter.proofs.player.PlayedAdapter.serve_write.Goals as goal

pub returns : goal.returns
returns g c =
    served g.O.Observer.heard g.met.O.Observer.composes (Writes c.args.offset c.args.value) c.args.self.now
    c.interleave_steps.new.self c.write_now.new.self c.pace_cycles.new.self c.args.observer.now c.interleave_steps.new.observer
    c.write_now.new.observer c.pace_cycles.new.observer c.interleave_steps.ensures c.write_now.ensures c.pace_cycles.ensures
