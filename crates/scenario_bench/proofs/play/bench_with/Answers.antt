use Rattle.std.proofs.Common.{map, refl}
use Rattle.std.proofs.lemmas.Result.{IfOk-weaker, err_from_is_err_and}
use Rattle.scenario_bench.specs.Benches.{Benches, sinks_of}
use Rattle.scenario_bench.specs.PlayedEvents.{trace_frames}
use Rattle.scenario_bench.proofs.Benching.{unmade}
use Rattle.scenario_bench.proofs.play.bench_with.Goals as goal

pub returns-in_err-play-clause-err : goal.returns-in_err-play-clause-err
returns-in_err-play-clause-err g c =
    let p = err_from_is_err_and c.from_residual.result c.from_residual.ensures.1 in
    rw (p.1, p.2) (unmade c.args.unit c.args.scenario.now (map trace_frames c.args.traces.now) _ (refl, refl) _ c.in_err-play.ensures.err)

pub bench-requires-clause-begins : goal.bench-requires-clause-begins
bench-requires-clause-begins g c = c.in_ok-play.ensures.ok

pub bench-requires-clause-puts : goal.bench-requires-clause-puts
bench-requires-clause-puts g c = c.in_ok-play.ensures.puts

pub returns-clause-ok : goal.returns-clause-ok
returns-clause-ok g c = IfOk-weaker c.bench.result _
    (λ summary. Benches c.args.unit c.args.scenario.now (map trace_frames c.args.traces.now) c.args.events summary
    (sinks_of g.W.Sink.taken g.W.Sink.failures c.args.sinks.now c.bench.new.sinks c.args.wire_sinks.now c.bench.new.wire_sinks))
    (λ summary benches. benches c.args.events c.in_ok-play.ensures.log) c.bench.ensures.ok

pub returns-clause-err : goal.returns-clause-err
returns-clause-err g c = c.bench.ensures.err
