use Rattle.std.proofs.Common.{rules}
use Rattle.scenario_bench.proofs.PlayedEvents.{front_played, played}
use Rattle.scenario_bench.proofs.play.Play.run.Goals as goal

pub returns-in-Err-clause-err : goal.returns-in-Err-clause-err
returns-in-Err-clause-err c =
    (front_played _ _ c.args.self.now _ c.in-Err.ensures.stopped.0 c.in-Err.ensures.stopped.1 (search rules), search rules)

pub returns-in-Ok-clause-ok : goal.returns-in-Ok-clause-ok
returns-in-Ok-clause-ok c = played c.args.events.now c.args.self.now _ c.in-Ok.ensures.ok (search rules)
