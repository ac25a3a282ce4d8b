use Rattle.std.proofs.Common.{◌≡◌, length}
use Rattle.pcap_trace.proofs.Sent.{SentUpTo}
use Rattle.pcap_trace.proofs.writing.write_all.Given as goal

abbrev pub invariant-loop-rest : goal.invariant-loop-rest
invariant-loop-rest g l = record {
  countable : g.W.Sink.failures l.sink ≡ g.W.Sink.failures l.initial.sink;
  sent : SentUpTo (g.W.Sink.taken l.initial.sink) (g.W.Sink.taken l.sink) l.bytes l.rest;
}

abbrev pub decreases-loop-rest : goal.decreases-loop-rest
decreases-loop-rest g l = length l.rest
