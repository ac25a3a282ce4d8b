use Rattle.std.proofs.Common.{◌≡◌, length, rules}
use Rattle.adapter.specs.bus_types.event.Access.TheVariants.{Loads}
use Rattle.dma_memory.specs.HostMemory.{bytes_at}
use Rattle.played_adapter.specs.Playing.{Paced}
use Rattle.played_adapter.specs.Requests.{AccessedAfter}
use Rattle.played_adapter.proofs.Choosing.{accessed_after}
use Rattle.played_adapter.proofs.Playing.{draws_fit}
use Rattle.played_adapter.proofs.Telling.{tells_both, tells_so}
use Rattle.played_adapter.proofs.player.PlayedAdapter.serve_load.Goals as goal

pub load_now-requires : goal.load_now-requires
load_now-requires g c =
    draws_fit c.args.self.now c.interleave_steps.new.self c.interleave_steps.ensures.told c.args.address (length c.args.into.now)
    (search rules) c.interleave_steps.ensures.holds

pub returns : goal.returns
returns g c =
    let heard = g.O.Observer.heard in
    let laws = g.met.O.Observer.composes in
    let a = c.args.self.now in
    let size = length c.args.into.now in
    let middle = c.load_now.new.self in
    let bytes = c.load_now.new.into in
    tells_both heard laws
    (λ m first. AccessedAfter (Loads c.args.address size) a m first
    × (bytes ≡ bytes_at m.machine.world.memory c.args.address size)) (λ m rest. Paced m c.pace_cycles.new.self rest) middle
    c.args.observer.now c.load_now.new.observer c.pace_cycles.new.observer
    (tells_so heard (AccessedAfter (Loads c.args.address size) a middle) _ c.args.observer.now c.load_now.new.observer
    (λ told happens. (happens, c.load_now.ensures.loaded))
    (accessed_after heard laws (Loads c.args.address size) a c.interleave_steps.new.self middle c.args.observer.now
    c.interleave_steps.new.observer c.load_now.new.observer c.interleave_steps.ensures c.load_now.ensures.tells)) c.pace_cycles.ensures
