use Rattle.std.proofs.Common.{length}
use Rattle.bus.specs.TickGroups.{behind_group, group_of}
use Rattle.solo_bus.specs.SoloBuses.{is_solo_go}
use Rattle.solo_bus.proofs.SoloTicks.{PlaysOn}
use Rattle.solo_bus.proofs.solo_bus.SoloBus.play_group.Given as goal

abbrev pub invariant-loop-tick : goal.invariant-loop-tick
invariant-loop-tick l = PlaysOn (group_of is_solo_go) (behind_group is_solo_go) l.fn.self l.self

abbrev pub decreases-loop-tick : goal.decreases-loop-tick
decreases-loop-tick l = length l.self.waiting
