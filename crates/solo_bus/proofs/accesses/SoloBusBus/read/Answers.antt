use Rattle.std.proofs.Common.{ap, refl}
use Rattle.bus.specs.declared.event.Access.TheVariants.{Reads}
use Rattle.solo_bus.specs.SoloBuses.{SoloState}
use Rattle.solo_bus.proofs.SoloAccesses.{access_keeps, acts_on}
use Rattle.solo_bus.proofs.accesses.SoloBusBus.read.Goals as goal

pub returns-clause-keeps : goal.returns-clause-keeps
returns-clause-keeps c =
    access_keeps c.args.self.now c.prepare.new.self c.read_now.new.self _ c.prepare.ensures c.read_now.ensures.state refl

pub returns-clause-acts : goal.returns-clause-acts
returns-clause-acts c honest =
    acts_on c.args.self.now c.prepare.new.self c.read_now.new.self
    (Reads c.args.offset c.read_now.result) _ c.prepare.ensures c.read_now.ensures.state c.read_now.ensures.answer
    c.read_now.ensures.adapter
    (c.read_now.ensures.answer, ap (λ (s : SoloState). s.world) c.read_now.ensures.state)
