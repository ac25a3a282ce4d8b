use Rattle.driver.specs.Parts.{buffers_in}
use Rattle.driver.proofs.BufferQueue.{no_second-inside}
use Rattle.driver.proofs.BuffersGiven.{parts-inside, parts-out}
use Rattle.driver.proofs.driver.Driver.put_back.Goals as goal

pub give_all-requires : goal.give_all-requires
give_all-requires c =
    let once = rw (← c.self.view_is) at c.requires.one_owner in
    parts-out c.self.inside (buffers_in c.args.parts) c.self.invariant.receives once

pub invariant_of-self : goal.invariant_of-self
invariant_of-self c =
    let once = rw (← c.self.view_is) at c.requires.one_owner in
    record {
      receives = parts-inside c.self.inside (buffers_in c.args.parts) c.give_all.new.pool c.self.invariant.receives once
          c.give_all.ensures.given c.give_all.ensures.buffers;
      sends = c.self.invariant.sends;
      resets = c.self.invariant.resets;
      sums = c.self.invariant.sums;
    }

pub returns-clause-one_owner : goal.returns-clause-one_owner
returns-clause-one_owner c = no_second-inside (record c.self.inside { pool = c.give_all.new.pool }) (invariant_of-self c).receives

pub returns-clause-back : goal.returns-clause-back
returns-clause-back c = rw (← c.self.view_is) c.give_all.ensures.given
