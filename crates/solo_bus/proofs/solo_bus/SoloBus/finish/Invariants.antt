use Rattle.std.proofs.Common.{length}
use Rattle.bus.specs.TickGroups.{without_go}
use Rattle.solo_bus.specs.SoloBuses.{is_solo_go}
use Rattle.solo_bus.proofs.SoloTicks.{PlaysOn, none_left}
use Rattle.solo_bus.proofs.solo_bus.SoloBus.finish.Given as goal

abbrev pub invariant-loop-tick : goal.invariant-loop-tick
invariant-loop-tick l = PlaysOn (without_go is_solo_go) none_left l.fn.self l.self

abbrev pub decreases-loop-tick : goal.decreases-loop-tick
decreases-loop-tick l = length l.self.waiting
