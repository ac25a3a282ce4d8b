use Rattle.std.proofs.Common.{arith}
use Rattle.stations.proofs.Hosts.{below-machines, shows}
use Rattle.stations.proofs.stations.Stations.machine.Goals as goal

pub index-requires : goal.index-requires
index-requires c = omega (arith, below-machines c.self.view_is c.self.invariant c.requires.there)

pub returns : goal.returns
returns c = (shows c.self.view_is c.self.invariant c.requires.there c.index.ensures).world
