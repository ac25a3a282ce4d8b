use Rattle.scenario_bench.specs.PlayedEvents.{TellTallies}
use Rattle.scenario_bench.proofs.play.Play.host_summaries.Given as goal

abbrev pub invariant-loop-number : goal.invariant-loop-number
invariant-loop-number l = TellTallies l.number l.plans l.self l.hosts.items
