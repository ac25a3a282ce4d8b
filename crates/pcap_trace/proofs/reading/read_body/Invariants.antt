use Rattle.std.proofs.Common.{◌≡◌, ◌≤◌, ◌+◌, ◌*◌, length}
use Rattle.std.specs.Io.KnownBytes.{prepend_known}
use Rattle.pcap_trace.specs.Devices.{Uses}
use Rattle.pcap_trace.proofs.Going.{GoesOnKnown}
use Rattle.pcap_trace.proofs.reading.read_body.Given as goal

abbrev pub invariant-packets : goal.invariant-packets
invariant-packets g l = record {
  countable : g.S.Source.failures l.source ≡ g.S.Source.failures l.initial.source;
  room : 16 * l.skipped + length l.block + g.S.Source.limit l.source ≤ length l.initial.block + g.S.Source.limit l.initial.source;
  used : Uses (g.S.Source.left l.initial.source) (g.S.Source.left l.source);
  so_far : GoesOnKnown g.T.ByteOrder.number_of (prepend_known l.initial.block (g.S.Source.left l.initial.source))
      (prepend_known l.block (g.S.Source.left l.source)) l.frames l.skipped;
}

abbrev pub decreases-packets : goal.decreases-packets
decreases-packets g l = length l.block + g.S.Source.limit l.source
