use Rattle.std.proofs.Common.{refl}
use Rattle.adapter.specs.bus_types.event.Access.TheVariants.{Reads}
use Rattle.adapter.specs.bus_types.event.Event.TheVariants.{Accesses}
use Rattle.stations.proofs.LentAccesses.{access-keeps, acted, still-there}
use Rattle.stations.proofs.accesses.LentBusBus.read.Goals as goal

pub invariant_of-self : goal.invariant_of-self
invariant_of-self g c = record {
  there = still-there c.prepare.new.self (Accesses (Reads c.args.offset c.read.result)) c.read.ensures.state;
  room = c.prepare.new.self.room;
}

pub returns-clause-keeps : goal.returns-clause-keeps
returns-clause-keeps g c =
    access-keeps (Reads c.args.offset c.read.result) c.prepare.ensures c.read.ensures.state c.read.ensures.answer refl

pub returns-clause-acts : goal.returns-clause-acts
returns-clause-acts g c = λ honest.
    acted c.prepare.ensures c.read.ensures.state c.read.ensures.answer c.read.ensures.adapter (λ there. (c.read.ensures.answer, there))
