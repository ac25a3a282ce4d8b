use Rattle.std.proofs.Common.{◌∷◌, [], ap, length, length-append, arith}
use Rattle.dma_memory.specs.Layout.{size_of}
use Rattle.adapter.proofs.Keeping.{keeps-here, keeps-on}
use Rattle.adapter.specs.Calls.{at}
use Rattle.adapter.specs.DriverState.{DriverState}
use Rattle.driver.proofs.RefillSteps.{stages-join, stages-none}
use Rattle.driver.proofs.driver.Driver.stage_all.Goals as goal

pub loop-init : goal.loop-init
loop-init g c = record {
  keeps = keeps-here g.B.Bus g.met.B.Bus.composes.lent_stays_here c.args.bus.now;
  stages = record {
    numbers = [];
    stages = stages-none g.B.Bus g.met.B.Bus.composes.stays (at c.args.bus.now c.args.self.now);
  };
}

pub loop-preserved : goal.loop-preserved
loop-preserved g c =
    let l = c.loop.invariant in
    let s = c.stage.ensures in
    let one = c.loop-test.ensures.stages in
    record {
      keeps = keeps-on g.B.Bus g.met.B.Bus.composes.lent_stays_on _ _ _ l.keeps s.keeps;
      stages = record {
        numbers = _;
        stages = stages-join g.B.Bus g.met.B.Bus.composes.joins _ _ _ _ _ l.keeps l.stages.stages one.1;
      };
    }

pub returns-clause-stages : goal.returns-clause-stages
returns-clause-stages g c = record {
  numbers = c.loop.invariant.stages.numbers;
  stages = rw (c.loop-test.ensures.still, c.loop-test.ensures.stays)
      c.loop.invariant.stages.stages;
}

pub stage-requires : goal.stage-requires
stage-requires g c =
    let i = c.loop.invariant in
    let same = ap (λ (d : DriverState). size_of d.layout) i.stages.stages.others in
    omega (arith, same, c.requires.memory, i.keeps.extent)

-- One more slot is staged.
pub loop-smaller : goal.loop-smaller
loop-smaller g c =
    let one = c.loop-test.ensures.stages in
    let others = one.1.others in
    omega (
      arith,
      ap (λ (d : DriverState). length d.buffers) others,
      ap (λ (d : DriverState). length d.staged) others,
      length-append c.loop.self.staged (one.0 ∷ []),
      ap (λ (d : DriverState). d.layout.rx) others,
      c.stage.ensures.room,
    )

pub returns-clause-keeps : goal.returns-clause-keeps
returns-clause-keeps g c = keeps-on g.B.Bus g.met.B.Bus.composes.lent_stays_on _ _ _ c.loop.invariant.keeps c.stage.ensures.keeps
