use Rattle.std.proofs.Common.{arith}
use Rattle.solo_bus.specs.SoloBuses.{solo_framed}
use Rattle.solo_bus.proofs.SoloTicks.{kinds_on}
use Rattle.solo_bus.proofs.solo_bus.SoloBus.live.Goals as goal

pub loop-kind-preserved : goal.loop-kind-preserved
loop-kind-preserved c = kinds_on _ c.loop-kind.kind-index _ _ c.loop-kind.self _ (solo_framed c.step.result c.loop-kind.self)
    (omega arith) c.loop-kind.invariant c.step.ensures.running c.step.ensures.answer c.step.ensures.state
