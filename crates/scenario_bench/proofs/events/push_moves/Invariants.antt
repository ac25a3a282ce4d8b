use Rattle.std.proofs.Common.{◌≡◌, ◌++◌}
use Rattle.std.specs.Prelude.{map}
use Rattle.scenario.specs.SoFar.{command_of_event}
use Rattle.scenario_bench.specs.EventLists.{moves_of_pieces}
use Rattle.scenario_bench.proofs.events.push_moves.Given as goal

abbrev pub invariant-loop-piece : goal.invariant-loop-piece
invariant-loop-piece l = map command_of_event l.events.items ≡ map command_of_event l.fn.events.items ++ moves_of_pieces l.host l._piece
