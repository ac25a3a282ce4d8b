use Rattle.driver.proofs.PlacesOfParts.{get-none}
use Rattle.driver.proofs.parts.Parts.get.Goals as goal

pub returns-then-index-self-clause-none : goal.returns-then-index-self-clause-none
returns-then-index-self-clause-none c =
    get-none c.self.inside c.args.index c.as_ref.result c.index-self-index.result _ c.self.invariant c.if-index-self.true
    c.as_ref.ensures.variant
