use Rattle.std.proofs.Common.{◌≡◌, take, map}
use Rattle.std.specs.Io.KnownBytes.{Appends}
use Rattle.pcap_trace.specs.Format.{timed, written}
use Rattle.pcap_trace.proofs.trace.Trace.write.Given as goal

abbrev pub invariant-loop-packet : goal.invariant-loop-packet
invariant-loop-packet g l = record {
  countable : g.W.Sink.failures l.sink ≡ g.W.Sink.failures l.fn.sink;
  sent : Appends (g.W.Sink.taken l.fn.sink) (g.W.Sink.taken l.sink) (written l.unit (map timed (take l.packet-index l.packets)));
}
