use Rattle.std.proofs.Common.{ℕ, List}
use Rattle.scenario.specs.SoFar.{hosts_of}
use Rattle.scenario_bench.specs.EventLists.{fed}
use Rattle.scenario_bench.specs.PlayedEvents.{AreOfSender}
use Rattle.scenario_bench.proofs.PlayedEvents.{HasFed}
use Rattle.scenario_bench.proofs.play.Play.feed.Given as goal

abbrev pub invariant-loop-frame : goal.invariant-loop-frame
invariant-loop-frame l =
    HasFed (List ℕ) (fed (hosts_of l.plans) l.host) l.trace.frames l.frame-iterator l.fn.self l.self
    × AreOfSender (hosts_of l.plans) l.host l.behind
