use Rattle.std.proofs.Common.{arith, ◌≡◌, subst}
use Rattle.adapter.specs.Registers.{answer_at}
use Rattle.adapter.specs.World.{World}
use Rattle.adapter.specs.bus_types.event.Access.TheVariants.{Reads}
use Rattle.stations.proofs.Hosts.{access-after, below-machines, has-adapter, shows}
use Rattle.stations.proofs.stations.Stations.read.Goals as goal

pub index_mut-requires : goal.index_mut-requires
index_mut-requires c = omega (arith, below-machines c.self.view_is c.self.invariant c.requires.there)

pub returns-clause-answer : goal.returns-clause-answer
returns-clause-answer c = subst (λ (w : World). c.read.result ≡ answer_at c.args.offset w.adapter)
    (shows c.self.view_is c.self.invariant c.requires.there c.index_mut.ensures.value).world c.read.ensures.occurs

pub returns-clause-state : goal.returns-clause-state
returns-clause-state c =
    access-after (Reads c.args.offset c.read.result) c.self.view_is c.self.invariant c.requires.there
    c.index_mut.ensures.value c.read.ensures.state

pub returns-clause-adapter : goal.returns-clause-adapter
returns-clause-adapter c = has-adapter c.self.view_is c.self.invariant c.requires.there c.index_mut.ensures.value c.read.ensures.adapter
