use Rattle.std.proofs.Common.{map}
use Rattle.run_record.specs.Traces.{texts_in}
use Rattle.run_record.specs.WrittenTraces.{AreWritten}
use Rattle.run_record.proofs.kept.KeptFrames.write.Given as goal

abbrev pub invariant-loop-index : goal.invariant-loop-index
invariant-loop-index g l = AreWritten l.unit l.index (texts_in l.traces l.self)
    (map (λ s. record { taken = g.W.Sink.taken s; failures = g.W.Sink.failures s }) l.fn.sinks)
    (map (λ s. record { taken = g.W.Sink.taken s; failures = g.W.Sink.failures s }) l.sinks)
