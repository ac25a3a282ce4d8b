use Rattle.std.proofs.Common.{length, ap, arith}
use Rattle.adapter.specs.DriverState.{DriverState}
use Rattle.driver.proofs.BufferQueue.{no_second-inside, queue-split}
use Rattle.driver.proofs.driver.Driver.outstanding.Goals as goal

pub returns-clause-count : goal.returns-clause-count
returns-clause-count c =
    omega (
      arith,
      (queue-split c.self.inside c.self.invariant.receives).outstanding,
      ap (λ (d : DriverState). length d.buffers) c.self.view_is,
      c.len.ensures.len,
      c.from.ensures,
    )

pub returns-clause-one_owner : goal.returns-clause-one_owner
returns-clause-one_owner c = rw (← c.self.view_is) (no_second-inside c.self.inside c.self.invariant.receives)
