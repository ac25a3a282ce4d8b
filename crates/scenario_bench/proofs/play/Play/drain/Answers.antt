use Rattle.scenario_bench.proofs.PlayedEvents.{drained}
use Rattle.scenario_bench.proofs.play.Play.drain.Goals as goal

pub returns-clause-ok : goal.returns-clause-ok
returns-clause-ok c = drained c.args.host c.drain.result c.make_room.new.self.list.items c.drain.new.sink.list.items
    c.as_slice.result.now c.args.self.now _ c.drain.ensures.drains c.make_room.ensures.none c.as_slice.ensures.value
    c.in_ok-note_drain.ensures
