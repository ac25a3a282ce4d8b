use Rattle.network_plants.proofs.CountedRuns.{if-handled}
use Rattle.network_plants.proofs.EtherSockets.{ether-first}
use Rattle.network_plants.proofs.consequences.ether_sockets_come_first.Goals as goal

pub returns : goal.returns
returns g c = record {
  sorted = if-handled c.interrupt.result (ether-first c.args.host.now c.interrupt.new.self) c.interrupt.ensures.serves;
}
