use Rattle.std.specs.Prelude.{map}
use Rattle.scenario.specs.SoFar.{command_of_event}
use Rattle.scenario_bench.proofs.EventsOfCommands.{moved-more}
use Rattle.scenario_bench.proofs.events.push_moves.Goals as goal

pub loop-piece-preserved : goal.loop-piece-preserved
loop-piece-preserved c = moved-more (map command_of_event c.args.events.now.items) (map command_of_event c.loop-piece.events.items) _ _ _
    c.args.host
    c.loop-piece._piece c.loop-piece.invariant c.in_ok-push_events.ensures c.step_event-data.ensures c.step_event-done.ensures
