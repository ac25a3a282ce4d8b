use Rattle.std.proofs.Common.{◌≤◌, ◌++◌, ◌∷◌, [], List, length, ap, arith, ◌∙◌}
use Rattle.driver.specs.declared.parts.Part.{Part}
use Rattle.driver.proofs.PlacesOfParts.{pushed}
use Rattle.driver.proofs.parts.Parts.push.Goals as goal

few : (c : goal.After-self-1) → c.self.inside.count ≤ 5
few c = omega (arith, c.self.invariant.count, ap length c.self.view_is, c.requires)

pub invariant_of-self : goal.invariant_of-self
invariant_of-self c = (pushed c.self.inside c.args.part c.self.invariant (few c)).filled_still

pub returns : goal.returns
returns c = (pushed c.self.inside c.args.part c.self.invariant (few c)).parts
    ∙ ap (λ (parts : List Part). parts ++ c.args.part ∷ []) c.self.view_is
