use Rattle.std.proofs.Common.{◌≡◌, ◌++◌}
use Rattle.std.specs.Prelude.{map}
use Rattle.scenario.specs.SoFar.{command_of_event}
use Rattle.scenario_bench.specs.EventLists.{arrival_at}
use Rattle.scenario_bench.proofs.events.push_arrival.Given as goal

abbrev pub invariant-loop-socket : goal.invariant-loop-socket
invariant-loop-socket l = map command_of_event l.events.items ≡ map command_of_event l.fn.events.items
    ++ arrival_at l.pieces l.host l.socket
