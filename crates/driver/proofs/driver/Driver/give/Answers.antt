use Rattle.std.proofs.Common.{arith, ap}
use Rattle.dma_memory.specs.Layout.{size_of}
use Rattle.dma_memory.specs.Owners.{copies}
use Rattle.dma_memory.specs.OwnersLaws.{copies-append}
use Rattle.adapter.proofs.Owners.{owners-count}
use Rattle.adapter.specs.Calls.{at}
use Rattle.adapter.specs.DriverState.{DriverState, owners}
use Rattle.driver.specs.Parts.{buffers_in}
use Rattle.driver.proofs.RefillSteps.{gives}
use Rattle.driver.proofs.driver.Driver.give.Goals as goal

pub returns-clause-owners : goal.returns-clause-owners
returns-clause-owners g c k =
    let d1 = c.args.self.now in
    let d2 = c.put_back.new.self in
    let later : DriverState = record d1 { pool = d2.pool } in
    omega (
      arith,
      copies-append k (buffers_in c.args.parts) (owners d1),
      copies-append k (buffers_in c.args.parts) d1.pool,
      owners-count k d1,
      owners-count k later,
      ap (λ (s : DriverState). copies k (owners s)) c.put_back.ensures.others,
      c.put_back.ensures.back k,
      c.refill.ensures.owners k,
    )

pub returns-clause-gives : goal.returns-clause-gives
returns-clause-gives g c =
    gives g.B.Bus g.met.B.Bus.composes.stays g.met.B.Bus.composes.joins c.args.bus.now c.args.self.now c.put_back.new.self
    (at c.refill.new.bus c.refill.new.self) c.args.parts c.put_back.ensures.others c.put_back.ensures.back c.refill.ensures.refills

pub refill-requires : goal.refill-requires
refill-requires g c = omega (arith, ap (λ (d : DriverState). size_of d.layout) c.put_back.ensures.others, c.requires.memory)
