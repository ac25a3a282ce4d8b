use Rattle.std.proofs.Common.{◌∙◌, ap, map}
use Rattle.std.proofs.lemmas.Result.{IfErr-weaker, err_from_is_err_and, on_ok_weaker}
use Rattle.scenario.specs.SoFar.{command_of_event, hosts_of}
use Rattle.scenario_bench.specs.EventLists.{events_after_send, fed}
use Rattle.scenario_bench.specs.PlayedEvents.{HasPlayed, StopsWithin}
use Rattle.scenario_bench.proofs.PlayedEvents.{behind_stops, send_stops, sent}
use Rattle.scenario_bench.proofs.play.Play.feed_frame.Goals as goal

pub returns-in_err-run_one-clause-err : goal.returns-in_err-run_one-clause-err
returns-in_err-run_one-clause-err c =
    let p = err_from_is_err_and c.from_residual.result c.from_residual.ensures.1 in
    rw (p.1, p.2) (send_stops (hosts_of c.args.plans.now) c.args.host c.args.frame.now c.args.self.now c.run_one.new.self _
    c.in_err-run_one.ensures.err)

pub returns-clause-ok : goal.returns-clause-ok
returns-clause-ok c =
    let hosts = hosts_of c.args.plans.now in
    on_ok_weaker c.run.result (λ (played : HasPlayed (map command_of_event c.as_slice.result.now) c.run_one.new.self c.run.new.self).
    sent hosts c.args.host c.args.frame.now c.as_slice.result.now c.args.self.now c.run_one.new.self c.run.new.self
    c.in_ok-run_one.ensures.ok
    (ap (map command_of_event) c.as_slice.ensures.value ∙ c.in_ok-make.ensures.events
    ∙ ap (events_after_send hosts c.args.host) c.pieces_of.ensures)
    played) c.run.ensures.ok

pub returns-clause-err : goal.returns-clause-err
returns-clause-err c =
    let hosts = hosts_of c.args.plans.now in
    IfErr-weaker c.run.result (StopsWithin (map command_of_event c.as_slice.result.now) c.run_one.new.self c.run.new.self)
    (StopsWithin (fed hosts c.args.host c.args.frame.now) c.args.self.now c.run.new.self) (λ error stops.
    behind_stops hosts c.args.host c.args.frame.now c.as_slice.result.now c.args.self.now c.run_one.new.self c.run.new.self error
    c.in_ok-run_one.ensures.ok
    (ap (map command_of_event) c.as_slice.ensures.value ∙ c.in_ok-make.ensures.events
    ∙ ap (events_after_send hosts c.args.host) c.pieces_of.ensures)
    stops) c.run.ensures.err
