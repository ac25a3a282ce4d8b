use Rattle.std.proofs.Common.{◌≡◌, drop}
use Rattle.run_record.specs.Traces.{is_in_trace}
use Rattle.run_record.proofs.Puts.{HasKept}
use Rattle.run_record.proofs.kept.KeptFrames.write_trace.Given as goal

abbrev pub invariant-loop-info : goal.invariant-loop-info
invariant-loop-info g l = record {
  quiet : g.W.Sink.failures l.sink ≡ g.W.Sink.failures l.fn.sink;
  written : HasKept l.unit (is_in_trace l.traces l.trace) l.fn.self (drop l.info-index l.info-items) l.bytes (g.W.Sink.taken l.fn.sink)
      (g.W.Sink.taken l.sink) l.writer;
}
