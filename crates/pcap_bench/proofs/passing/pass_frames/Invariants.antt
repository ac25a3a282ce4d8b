use Rattle.std.proofs.Common.{◌≡◌, length}
use Rattle.std.specs.Io.KnownBytes.{append_known}
use Rattle.pcap_trace.specs.Devices.{Grows}
use Rattle.rx_filter.specs.Passing.{Passes}
use Rattle.rx_filter.specs.Registers.{filter_of}
use Rattle.receive_lane.specs.Lane.{IsWaiting}
use Rattle.pcap_bench.proofs.Passes.{SoFar}
use Rattle.pcap_bench.proofs.passing.pass_frames.Given as goal

abbrev pub invariant-loop-frame : goal.invariant-loop-frame
invariant-loop-frame g l = record {
  quiet : g.W.Sink.failures l.sink ≡ g.W.Sink.failures l.fn.sink;
  waiting : IsWaiting l.lane;
  filter : l.lane.adapter.filter ≡ l.fn.lane.adapter.filter;
  read : l.counts.read ≡ length l.fn.trace.frames;
  grows : Grows (g.W.Sink.taken l.fn.sink) (g.W.Sink.taken l.sink);
  so_far : SoFar l.fn.unit (Passes (filter_of l.fn.lane.adapter.filter)) l.fn.trace.frames l.frame-iterator l.next l.counts.illegal
      l.counts.filtered l.counts.written (g.W.Sink.taken l.fn.sink) (append_known (g.W.Sink.taken l.sink) l.writer);
}
