use Rattle.driver.proofs.BufferQueue.{no_second-inside}
use Rattle.driver.proofs.driver.Driver.receiving.Goals as goal

pub returns-clause-one_owner : goal.returns-clause-one_owner
returns-clause-one_owner c = rw (← c.self.view_is) (no_second-inside c.self.inside c.self.invariant.receives)
