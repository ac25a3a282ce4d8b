use Rattle.std.proofs.Common.{map, take}
use Rattle.solo_bus.specs.SoloBuses.{PlaysSoloTicks}
use Rattle.solo_bus.specs.declared.solo_bus.SoloTick.TheVariants.{Step}
use Rattle.solo_bus.proofs.solo_bus.SoloBus.live.Given as goal

abbrev pub invariant-loop-kind : goal.invariant-loop-kind
invariant-loop-kind l = PlaysSoloTicks (map Step (take l.kind-index l.kind-items)) l.fn.self.waiting l.fn.self l.self
