use Rattle.std.proofs.Common.{◌≤◌, Option, List, [], arith, inl, length, refl, subst}
use Rattle.std.proofs.lemmas.Result.{err_from_is_err_and, on_err_weaker, on_ok_weaker}
use Rattle.std.specs.Prelude.{unwrap_or}
use Rattle.run_record.specs.Kept.{KeptFrame}
use Rattle.run_record.specs.Traces.{texts_in}
use Rattle.scenario_bench.proofs.Written.{no_wires, wire_failed, wires_written}
use Rattle.scenario_bench.proofs.play.Play.write_through.Goals as goal

pub write-requires-clause-sinks : goal.write-requires-clause-sinks
write-requires-clause-sinks g c = omega (arith, c.requires.sinks)

pub write-requires-in-Some-clause-sinks : goal.write-requires-in-Some-clause-sinks
write-requires-in-Some-clause-sinks g c =
    subst (λ (puts : Option (List KeptFrame)). length c.args.wire_sinks.now ≤ length (texts_in c.args.of_wires.now (unwrap_or puts [])))
    c.in-Some.is c.requires.wires

pub returns-in_err-write-clause-err : goal.returns-in_err-write-clause-err
returns-in_err-write-clause-err g c =
    let p = err_from_is_err_and c.from_residual.result c.from_residual.ensures.1 in
    rw p.1 (inl (c.in_err-write.ensures.err, refl))

pub returns-in-Some-clause-ok : goal.returns-in-Some-clause-ok
returns-in-Some-clause-ok g c = on_ok_weaker c.write-in-Some.result
    (wires_written g.W.Sink.taken g.W.Sink.failures c.args.unit (texts_in c.args.of_sockets.now c.args.self.now.record.returned)
    c.args.of_wires.now c.args.self.now.record.puts c.args.sinks.now c.write.new.sinks c.args.wire_sinks.now c.in_ok-write.ensures.ok
    c.write-in-Some.new.sinks c.in-Some.puts c.in-Some.is) c.write-in-Some.ensures.ok

pub returns-in-Some-clause-err : goal.returns-in-Some-clause-err
returns-in-Some-clause-err g c = on_err_weaker c.write-in-Some.result
    (wire_failed g.W.Sink.taken g.W.Sink.failures c.args.unit (texts_in c.args.of_sockets.now c.args.self.now.record.returned)
    c.args.of_wires.now c.args.self.now.record.puts c.args.sinks.now c.write.new.sinks c.args.wire_sinks.now c.in_ok-write.ensures.ok
    c.write-in-Some.new.sinks c.in-Some.puts c.in-Some.is) c.write-in-Some.ensures.err

pub returns-in-None-clause-ok : goal.returns-in-None-clause-ok
returns-in-None-clause-ok g c =
    no_wires g.W.Sink.taken g.W.Sink.failures c.args.unit (texts_in c.args.of_sockets.now c.args.self.now.record.returned)
    c.args.of_wires.now c.args.self.now.record.puts c.args.sinks.now c.write.new.sinks c.args.wire_sinks.now c.in_ok-write.ensures.ok
    c.in-None.is c.requires.recorded
