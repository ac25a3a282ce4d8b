use Rattle.network_plants.proofs.CountedRuns.{host-unclaimed, if-handled}
use Rattle.network_plants.proofs.consequences.frames_without_sockets_are_counted.Goals as goal

pub returns : goal.returns
returns g c = record {
  counted = if-handled c.interrupt.result (host-unclaimed c.args.host.now c.interrupt.new.self) c.interrupt.ensures.serves;
}
