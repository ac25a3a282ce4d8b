use Rattle.std.proofs.Common.{drop, map}
use Rattle.scenario.specs.SoFar.{Said, hosts_of, said_of}
use Rattle.scenario_bench.specs.EventLists.{events_of}
use Rattle.scenario_bench.specs.PlayedEvents.{trace_frames}
use Rattle.scenario_bench.proofs.PlayedEvents.{HasFed}
use Rattle.scenario_bench.proofs.play.Play.commands.Given as goal

abbrev pub invariant-loop-place : goal.invariant-loop-place
invariant-loop-place l = HasFed Said (events_of (hosts_of l.plans) (map trace_frames l.traces)) (map said_of l.commands)
    (map said_of (drop l.place l.commands))
    l.fn.self l.self
