use Rattle.std.proofs.Common.{ap, refl}
use Rattle.bus.specs.declared.event.Access.TheVariants.{Writes}
use Rattle.solo_bus.specs.SoloBuses.{SoloState}
use Rattle.solo_bus.proofs.SoloAccesses.{access_keeps, acts_on}
use Rattle.solo_bus.proofs.accesses.SoloBusBus.write.Goals as goal

pub returns-clause-keeps : goal.returns-clause-keeps
returns-clause-keeps c =
    access_keeps c.args.self.now c.prepare.new.self c.write_now.new.self _ c.prepare.ensures c.write_now.ensures.state refl

pub returns-clause-acts : goal.returns-clause-acts
returns-clause-acts c honest =
    acts_on c.args.self.now c.prepare.new.self c.write_now.new.self
    (Writes c.args.offset c.args.value) _ c.prepare.ensures c.write_now.ensures.state tt c.write_now.ensures.adapter
    (ap (λ (s : SoloState). s.world) c.write_now.ensures.state)
