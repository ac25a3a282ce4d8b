use Rattle.std.proofs.Common.{arith, length, sym, subst}
use Rattle.adapter.specs.World.{World}
use Rattle.adapter.specs.bus_types.event.Access.TheVariants.{Stores}
use Rattle.dma_memory.specs.HostMemory.{LiesIn}
use Rattle.stations.proofs.Hosts.{access-after, below-machines, has-adapter, shows}
use Rattle.stations.proofs.stations.Stations.store.Goals as goal

pub index_mut-requires : goal.index_mut-requires
index_mut-requires c = omega (arith, below-machines c.self.view_is c.self.invariant c.requires.there)

pub store-requires : goal.store-requires
store-requires c = record {
  lies = subst (λ (w : World). LiesIn w.memory c.args.address (length c.args.bytes.now))
      (sym (shows c.self.view_is c.self.invariant c.requires.there c.index_mut.ensures.value).world) c.requires.lies;
}

pub returns-clause-state : goal.returns-clause-state
returns-clause-state c =
    access-after (Stores c.args.address c.args.bytes.now) c.self.view_is c.self.invariant c.requires.there
    c.index_mut.ensures.value c.store.ensures.state

pub returns-clause-adapter : goal.returns-clause-adapter
returns-clause-adapter c = has-adapter c.self.view_is c.self.invariant c.requires.there c.index_mut.ensures.value c.store.ensures.adapter
