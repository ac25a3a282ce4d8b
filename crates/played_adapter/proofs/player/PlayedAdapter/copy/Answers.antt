use Rattle.std.proofs.Common.{◌≡◌, refl, rules}
use Rattle.played_adapter.proofs.player.PlayedAdapter.copy.Goals as goal

pub returns : goal.returns
returns c =
    let a = c.args.self.now in
    let machine : c.in_ok-machine.machine ≡ a.machine = c.in_ok-machine.ensures in
    let generator : c.in_ok-generator.generator ≡ a.generator = search rules in
    let queues = c.in_ok-queues.ensures in
    let parts = c.into_parts-adapter.ensures in
    record {
      world = rw (c.new.ensures, parts.adapter, parts.memory, machine) refl;
      same = rw (c.new.ensures, parts.adapter, parts.memory, machine, generator, queues.wire, queues.offered, queues.scheduled) refl;
    }
