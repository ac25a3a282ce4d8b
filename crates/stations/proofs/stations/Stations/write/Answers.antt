use Rattle.std.proofs.Common.{arith}
use Rattle.adapter.specs.bus_types.event.Access.TheVariants.{Writes}
use Rattle.stations.proofs.Hosts.{access-after, below-machines, has-adapter}
use Rattle.stations.proofs.stations.Stations.write.Goals as goal

pub index_mut-requires : goal.index_mut-requires
index_mut-requires c = omega (arith, below-machines c.self.view_is c.self.invariant c.requires.there)

pub returns-clause-state : goal.returns-clause-state
returns-clause-state c =
    access-after (Writes c.args.offset c.args.value) c.self.view_is c.self.invariant c.requires.there
    c.index_mut.ensures.value c.write.ensures.state

pub returns-clause-adapter : goal.returns-clause-adapter
returns-clause-adapter c = has-adapter c.self.view_is c.self.invariant c.requires.there c.index_mut.ensures.value c.write.ensures.adapter
