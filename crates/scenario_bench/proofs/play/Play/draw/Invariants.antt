use Rattle.scenario.specs.SoFar.{hosts_of}
use Rattle.scenario_bench.specs.EventLists.{event_drawn, words_drawn}
use Rattle.scenario_bench.proofs.PlayedEvents.{HasDrawn}
use Rattle.scenario_bench.proofs.play.Play.draw.Given as goal

abbrev pub invariant-loop-left : goal.invariant-loop-left
invariant-loop-left l = HasDrawn (event_drawn (hosts_of l.plans)) (words_drawn l.count l.start) l.left l.generator l.fn.self l.self

abbrev pub decreases-loop-left : goal.decreases-loop-left
decreases-loop-left l = l.left
