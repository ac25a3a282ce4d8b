use Rattle.std.proofs.Common.{refl}
use Rattle.adapter.specs.bus_types.event.Access.TheVariants.{Writes}
use Rattle.adapter.specs.bus_types.event.Event.TheVariants.{Accesses}
use Rattle.stations.proofs.LentAccesses.{access-keeps, acted, still-there}
use Rattle.stations.proofs.accesses.LentBusBus.write.Goals as goal

pub invariant_of-self : goal.invariant_of-self
invariant_of-self g c = record {
  there = still-there c.prepare.new.self (Accesses (Writes c.args.offset c.args.value)) c.write.ensures.state;
  room = c.prepare.new.self.room;
}

pub returns-clause-keeps : goal.returns-clause-keeps
returns-clause-keeps g c = access-keeps (Writes c.args.offset c.args.value) c.prepare.ensures c.write.ensures.state tt refl

pub returns-clause-acts : goal.returns-clause-acts
returns-clause-acts g c = λ honest.
    acted c.prepare.ensures c.write.ensures.state tt c.write.ensures.adapter (λ there. there)
