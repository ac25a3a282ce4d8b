use Rattle.std.proofs.Common.{arith}
use Rattle.stations.proofs.Hosts.{as-long}
use Rattle.stations.proofs.stations.Stations.len.Goals as goal

pub returns : goal.returns
returns c = omega (arith, as-long c.self.view_is c.self.invariant, c.len.ensures)
