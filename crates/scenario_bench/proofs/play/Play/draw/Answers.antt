use Rattle.std.proofs.Common.{arith, ◌∙◌}
use Rattle.std.proofs.lemmas.Result.{err_from_is_err_and}
use Rattle.scenario.specs.SoFar.{command_of_event, hosts_of}
use Rattle.scenario_bench.specs.EventLists.{event_drawn, words_drawn}
use Rattle.scenario_bench.proofs.PlayedEvents.{draw_stops, one_drawn}
use Rattle.scenario_bench.proofs.play.Play.draw.Goals as goal

pub loop-left-preserved : goal.loop-left-preserved
loop-left-preserved c = one_drawn (event_drawn (hosts_of c.args.plans.now)) (words_drawn c.args.count c.args.start) c.loop-left.left
    c.next_word.result c.loop-left.generator c.next_word.new.self (command_of_event c.event.result) c.args.self.now c.loop-left.self
    c.run_one.new.self c.loop-left.invariant (omega arith) c.next_word.ensures (c.event.ensures ∙ c.new-drawn.ensures)
    c.in_ok-run_one.ensures.ok

pub returns-in_err-run_one-clause-err : goal.returns-in_err-run_one-clause-err
returns-in_err-run_one-clause-err c =
    let p = err_from_is_err_and c.from_residual.result c.from_residual.ensures.1 in
    rw (p.1, p.2) (draw_stops (event_drawn (hosts_of c.args.plans.now)) (words_drawn c.args.count c.args.start) c.loop-left.left
    c.next_word.result c.loop-left.generator c.next_word.new.self (command_of_event c.event.result) c.args.self.now c.loop-left.self
    c.run_one.new.self _ c.loop-left.invariant (omega arith) c.next_word.ensures (c.event.ensures ∙ c.new-drawn.ensures)
    c.in_err-run_one.ensures.err)
