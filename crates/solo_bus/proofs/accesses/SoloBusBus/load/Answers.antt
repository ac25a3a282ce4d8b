use Rattle.std.proofs.Common.{refl, length, arith}
use Rattle.bus.specs.declared.event.Access.TheVariants.{Loads}
use Rattle.solo_bus.proofs.SoloAccesses.{access_keeps, acts_on, size_prepared}
use Rattle.solo_bus.proofs.accesses.SoloBusBus.load.Goals as goal

pub load_now-requires : goal.load_now-requires
load_now-requires c = omega (arith, c.requires, size_prepared c.args.self.now c.prepare.new.self c.prepare.ensures)

pub returns-clause-keeps : goal.returns-clause-keeps
returns-clause-keeps c =
    access_keeps c.args.self.now c.prepare.new.self c.prepare.new.self _ c.prepare.ensures refl refl

pub returns-clause-acts : goal.returns-clause-acts
returns-clause-acts c honest =
    acts_on c.args.self.now c.prepare.new.self c.prepare.new.self
    (Loads c.args.address (length c.args.into.now)) _ c.prepare.ensures refl tt c.load_now.ensures.adapter
    (c.load_now.ensures.loaded, refl)
