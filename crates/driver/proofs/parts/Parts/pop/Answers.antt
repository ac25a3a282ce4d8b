use Rattle.std.proofs.Common.{◌≡◌, ◌+◌, ◌-◌, arith}
use Rattle.driver.proofs.PlacesOfParts.{pop-last, pop-none, popped}
use Rattle.driver.proofs.parts.Parts.pop.Goals as goal

some : (c : goal.After-take) → c.self.inside.count ≡ c.self.inside.count - 1 + 1
some c = omega (arith, c.if-self-eq0.false)

pub invariant_of-self : goal.invariant_of-self
invariant_of-self c = rw c.take.ensures.after (popped c.self.inside (c.self.inside.count - 1) c.self.invariant (some c)).filled_still

pub returns-clause-none : goal.returns-clause-none
returns-clause-none c = pop-none c.self.inside (c.self.inside.count - 1) c.args.self.now c.take.result c.index-self-self.result
    c.self.invariant (some c) c.take.ensures.value

pub returns-clause-last : goal.returns-clause-last
returns-clause-last c =
    pop-last c.self.inside (c.self.inside.count - 1) c.args.self.now c.take.result c.take.new.self
    c.index-self-self.result c.self.invariant (some c) c.self.view_is c.take.ensures.value c.take.ensures.after
