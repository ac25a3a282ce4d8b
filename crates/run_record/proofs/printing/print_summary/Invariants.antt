use Rattle.std.proofs.Common.{◌≡◌, drop}
use Rattle.std.specs.List.{flat_map}
use Rattle.pcap_trace.proofs.Sent.{SentUpTo}
use Rattle.run_record.specs.Printing.{host_line, summary_text}
use Rattle.run_record.proofs.printing.print_summary.Given as goal

abbrev pub invariant-loop-host : goal.invariant-loop-host
invariant-loop-host g l = record {
  quiet : g.W.Sink.failures l.sink ≡ g.W.Sink.failures l.fn.sink;
  sent : SentUpTo (g.W.Sink.taken l.fn.sink) (g.W.Sink.taken l.sink) (summary_text l.fn.summary)
      (flat_map host_line (drop l.host-index l.summary.hosts.items));
}
