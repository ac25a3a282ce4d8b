use Rattle.std.proofs.Common.{◌≡◌, ◌+◌, ◌++◌, length}
use Rattle.pcap_trace.proofs.Sent.{SentUpTo}
use Rattle.pcap_bench.specs.Showing.{end_line, shown_frames, shown_trace}
use Rattle.pcap_bench.proofs.showing.show.Given as goal

abbrev pub invariant-loop-frame : goal.invariant-loop-frame
invariant-loop-frame g l = record {
  quiet : g.W.Sink.failures l.sink ≡ g.W.Sink.failures l.fn.sink;
  counted : l.next + length l.frame-iterator ≡ l.count;
  sent : SentUpTo (g.W.Sink.taken l.fn.sink) (g.W.Sink.taken l.sink) (shown_trace l.fn.trace)
      (shown_frames l.next l.frame-iterator ++ end_line l.fn.trace);
}
