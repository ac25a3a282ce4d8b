use Rattle.std.proofs.Common.{length, rules}
use Rattle.played_adapter.proofs.Playing.{draws_fit}
use Rattle.adapter.specs.bus_types.event.Access.TheVariants.{Stores}
use Rattle.played_adapter.proofs.Choosing.{served}
use Rattle.played_adapter.proofs.player.PlayedAdapter.serve_store.Goals as goal

pub store_now-requires : goal.store_now-requires
store_now-requires g c =
    draws_fit c.args.self.now c.interleave_steps.new.self c.interleave_steps.ensures.told c.args.address (length c.args.bytes.now)
    (search rules) c.interleave_steps.ensures.holds

pub returns : goal.returns
returns g c =
    served g.O.Observer.heard g.met.O.Observer.composes (Stores c.args.address c.args.bytes.now) c.args.self.now
    c.interleave_steps.new.self c.store_now.new.self c.pace_cycles.new.self c.args.observer.now c.interleave_steps.new.observer
    c.store_now.new.observer c.pace_cycles.new.observer c.interleave_steps.ensures c.store_now.ensures c.pace_cycles.ensures
