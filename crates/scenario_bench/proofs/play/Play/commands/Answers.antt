use Rattle.std.proofs.Common.{◌+◌, ◌∷◌, ◌∙◌, ap, drop, map, sym}
use Rattle.std.proofs.Math.ListN.{drop_of_length-le}
use Rattle.std.proofs.lemmas.List.{drop_more}
use Rattle.std.proofs.lemmas.Result.{err_from_is_err_and}
use Rattle.scenario.specs.SoFar.{Said, hosts_of, said_of}
use Rattle.scenario.specs.declared.command.Command.{Command}
use Rattle.scenario_bench.specs.EventLists.{events_of}
use Rattle.scenario_bench.specs.PlayedEvents.{trace_frames}
use Rattle.scenario_bench.proofs.PlayedEvents.{all_ran, command_stops, none_fed, one_ran, played_counted, played_lined, stops_lined}
use Rattle.scenario_bench.proofs.play.Play.commands.Goals as goal

pub loop-place-init : goal.loop-place-init
loop-place-init c = none_fed Said (events_of (hosts_of c.args.plans.now) (map trace_frames c.args.traces.now))
    (map said_of c.args.commands.now) c.args.self.now

pub loop-place-preserved : goal.loop-place-preserved
loop-place-preserved c = one_ran (hosts_of c.args.plans.now) (map trace_frames c.args.traces.now) c.args.commands.now
    (drop c.loop-place.place c.args.commands.now) (drop (c.loop-place.place + 1) c.args.commands.now)
    c.index-commands-place.result c.args.self.now c.loop-place.self _ c.loop-place.invariant
    (drop_more c.args.commands.now c.loop-place.place c.index-commands-place.result c.loop-place-test.true
    ∙ ap (λ (one : Command). one ∷ drop (c.loop-place.place + 1) c.args.commands.now) (sym c.index-commands-place.is))
    (played_counted _ c.asked_after-self.result c.loop-place.self c.command.new.self
    (played_lined _ c.unwrap_or-self.result c.loop-place.self c.command.new.self c.in_ok-command.ensures.ok))

pub returns-in_err-command-clause-err : goal.returns-in_err-command-clause-err
returns-in_err-command-clause-err c =
    let p = err_from_is_err_and c.from_residual.result c.from_residual.ensures.1 in
    rw (p.1, p.2) (command_stops (hosts_of c.args.plans.now) (map trace_frames c.args.traces.now) c.args.commands.now
    (drop c.loop-place.place c.args.commands.now) (drop (c.loop-place.place + 1) c.args.commands.now)
    c.index-commands-place.result c.args.self.now c.loop-place.self c.command.new.self _ c.loop-place.invariant
    (drop_more c.args.commands.now c.loop-place.place c.index-commands-place.result c.loop-place-test.true
    ∙ ap (λ (one : Command). one ∷ drop (c.loop-place.place + 1) c.args.commands.now) (sym c.index-commands-place.is))
    (stops_lined _ c.unwrap_or-self.result c.loop-place.self c.command.new.self _ c.in_err-command.ensures.err))

pub returns-clause-ok : goal.returns-clause-ok
returns-clause-ok c = all_ran (hosts_of c.args.plans.now) (map trace_frames c.args.traces.now) c.args.commands.now
    (drop c.loop-place.place c.args.commands.now) c.args.self.now c.loop-place.self c.loop-place.invariant
    (drop_of_length-le c.args.commands.now c.loop-place-test.false)
