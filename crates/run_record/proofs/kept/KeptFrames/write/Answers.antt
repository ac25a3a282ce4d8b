use Rattle.std.proofs.Common.{arith}
use Rattle.std.proofs.lemmas.Result.{err_from_is_err_and}
use Rattle.run_record.proofs.Writing.{at-sink, sink_failed, sink_written, still_countable}
use Rattle.run_record.proofs.kept.KeptFrames.write.Goals as goal

pub write_trace-requires : goal.write_trace-requires
write_trace-requires g c =
    let at = at-sink g.W.Sink.taken g.W.Sink.failures c.args.unit c.args.traces.now c.args.self.now c.loop-index.index c.args.sinks.now
    c.loop-index.sinks c.index-sinks-index.result (omega arith) (omega arith) c.loop-index.invariant in
    record { countable = still_countable g.W.Sink.taken g.W.Sink.failures _ at c.requires.countable }

pub returns-in_err-write_trace-clause-err : goal.returns-in_err-write_trace-clause-err
returns-in_err-write_trace-clause-err g c =
    let p = err_from_is_err_and c.from_residual.result c.from_residual.ensures.1 in
    let at = at-sink g.W.Sink.taken g.W.Sink.failures c.args.unit c.args.traces.now c.args.self.now c.loop-index.index c.args.sinks.now
    c.loop-index.sinks c.index-sinks-index.result (omega arith) (omega arith) c.loop-index.invariant in
    rw p.1 (
      c.loop-index.index,
      sink_failed g.W.Sink.taken g.W.Sink.failures c.write_trace.new.sink at
          (record { taken = c.in_err-write_trace.ensures.err; failures = c.in_err-write_trace.ensures.failures }),
    )

pub loop-index-preserved : goal.loop-index-preserved
loop-index-preserved g c =
    let at = at-sink g.W.Sink.taken g.W.Sink.failures c.args.unit c.args.traces.now c.args.self.now c.loop-index.index c.args.sinks.now
    c.loop-index.sinks c.index-sinks-index.result (omega arith) (omega arith) c.loop-index.invariant in
    sink_written g.W.Sink.taken g.W.Sink.failures c.write_trace.new.sink at
    (record { taken = c.in_ok-write_trace.ensures.ok; failures = c.in_ok-write_trace.ensures.failures })
