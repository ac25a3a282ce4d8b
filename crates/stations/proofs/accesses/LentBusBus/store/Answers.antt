use Rattle.std.proofs.Common.{arith}
use Rattle.dma_memory.specs.Laws.{length-with_bytes}
use Rattle.adapter.specs.bus_types.event.Access.TheVariants.{Stores}
use Rattle.stations.specs.LentBuses.{world_here}
use Rattle.adapter.specs.bus_types.event.Event.TheVariants.{Accesses}
use Rattle.stations.proofs.LentAccesses.{access-keeps, acted, size-prepared, still-there}
use Rattle.stations.proofs.accesses.LentBusBus.store.Goals as goal

pub invariant_of-self : goal.invariant_of-self
invariant_of-self g c = record {
  there = still-there c.prepare.new.self (Accesses (Stores c.args.address c.args.bytes.now)) c.store.ensures.state;
  room = c.prepare.new.self.room;
}

pub store-requires-clause-lies : goal.store-requires-clause-lies
store-requires-clause-lies g c = omega (arith, c.requires, size-prepared c.args.self.now c.prepare.new.self c.prepare.ensures)

pub returns-clause-keeps : goal.returns-clause-keeps
returns-clause-keeps g c = access-keeps (Stores c.args.address c.args.bytes.now) c.prepare.ensures c.store.ensures.state tt
    (length-with_bytes (world_here c.prepare.new.self).memory c.args.bytes.now c.args.address
    (omega (arith, c.requires, size-prepared c.args.self.now c.prepare.new.self c.prepare.ensures)))

pub returns-clause-acts : goal.returns-clause-acts
returns-clause-acts g c = λ honest.
    acted c.prepare.ensures c.store.ensures.state tt c.store.ensures.adapter (λ there. there)
