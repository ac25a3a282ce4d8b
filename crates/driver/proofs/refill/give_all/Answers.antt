use Rattle.std.proofs.Common.{◌∙◌, ◌++◌, List, ap, subst, sym}
use Rattle.std.specs.Prelude.{ℕ}
use Rattle.dma_memory.specs.Owners.{HasNoSecondOwner, copies}
use Rattle.driver.specs.Parts.{buffers_in}
use Rattle.driver.specs.declared.parts.Part.{Part}
use Rattle.driver.proofs.BuffersGiven.{Splits, can-return, returned, splits-parts}
use Rattle.driver.proofs.refill.give_all.Goals.{In-Some}
use Rattle.driver.proofs.refill.give_all.Goals as goal

left : (c : In-Some)
    → Splits (buffers_in c.args.parts ++ c.args.pool.now.free) c.in-Some.part.buffer (buffers_in c.pop.new.self) c.loop-part.pool.free
left c = splits-parts _ _ c.pop.new.self c.in-Some.part c.in-Some.ensures.last c.loop-part.invariant.same

pub give-requires : goal.give-requires
give-requires c =
    let can = can-return (left (goal.at.give-requires c).In-Some)
    (subst (λ (n : ℕ). HasNoSecondOwner n (buffers_in c.args.parts ++ c.args.pool.now.free)) (sym c.loop-part.invariant.buffers) c.requires)
    in
    record { known = can.known; out = can.out }

pub loop-part-preserved : goal.loop-part-preserved
loop-part-preserved c = record {
  same = returned c.give.new.self.free (left (goal.at.loop-part-preserved c).In-Some) c.give.ensures.given;
  buffers = c.give.ensures.buffers ∙ c.loop-part.invariant.buffers;
}

pub returns-clause-given : goal.returns-clause-given
returns-clause-given c k =
    c.loop-part.invariant.same k
    ∙ ap (λ (parts : List Part). copies k (buffers_in parts ++ c.loop-part.pool.free)) c.in_default.ensures.none
