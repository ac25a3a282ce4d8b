use Rattle.std.proofs.Common.{◌++◌, ap, sym, ◌∙◌}
use Rattle.dma_memory.specs.Owners.{copies}
use Rattle.adapter.specs.Calls.{at}
use Rattle.adapter.specs.DriverState.{DriverState}
use Rattle.driver.proofs.RefillSteps.{owners-staged, refills}
use Rattle.driver.proofs.driver.Driver.refill.Goals as goal

pub returns-clause-order : goal.returns-clause-order
returns-clause-order g c =
    let stages = c.stage_all.ensures.stages.stages in
    let numbers = c.stage_all.ensures.stages.numbers in
    record {
      offered = numbers;
      newest =
          ap (λ (s : DriverState). s.buffers) c.offer.ensures.others
          ∙ ap (λ (s : DriverState). s.buffers ++ s.staged) stages.others;
      pool = λ k. stages.pool k ∙ ap (λ (s : DriverState). copies k (numbers ++ s.pool)) (sym c.offer.ensures.others);
    }

pub returns-clause-owners : goal.returns-clause-owners
returns-clause-owners g c k =
    owners-staged g.B.Bus _ _ _ c.stage_all.ensures.stages.stages k ∙ c.offer.ensures.owners k

pub returns-clause-refills : goal.returns-clause-refills
returns-clause-refills g c =
    refills g.B.Bus g.met.B.Bus.composes.joins (at c.args.bus.now c.args.self.now) (at c.stage_all.new.bus c.stage_all.new.self)
    (at c.offer.new.bus c.offer.new.self) _ c.stage_all.ensures.keeps c.stage_all.ensures.stages.stages c.offer.ensures.others
    c.offer.ensures.ran
