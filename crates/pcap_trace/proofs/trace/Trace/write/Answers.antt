use Rattle.std.proofs.Common.{map, subst, ◌∙◌}
use Rattle.std.specs.List.{flat_map}
use Rattle.std.proofs.lemmas.Result.{err_from_is_err_and}
use Rattle.pcap_trace.specs.Devices.{AppendsFront}
use Rattle.pcap_trace.specs.Format.{file_header, packet_of, timed}
use Rattle.pcap_trace.proofs.Sent.{AppendsFront-longer}
use Rattle.pcap_trace.proofs.Packets.{written-more, written-front}
use Rattle.pcap_trace.proofs.trace.Trace.write.Goals as goal

pub returns-in_err-write_all-clause-err : goal.returns-in_err-write_all-clause-err
returns-in_err-write_all-clause-err g c =
    let p = err_from_is_err_and c.from_residual.result c.from_residual.ensures.1 in
    let a = g.W.Sink.taken c.args.sink.now in
    let b = g.W.Sink.taken c.write_all.new.sink in
    rw p.1 (AppendsFront-longer a b (file_header c.args.unit) (flat_map (packet_of c.args.unit) (map timed c.args.packets.now))
    (subst (AppendsFront a b) c.file_header.ensures c.in_err-write_all.ensures.err))

pub returns-in_err-write_packet-clause-err : goal.returns-in_err-write_packet-clause-err
returns-in_err-write_packet-clause-err g c =
    let p = err_from_is_err_and c.from_residual-in_err-write_packet.result c.from_residual-in_err-write_packet.ensures.1 in
    rw p.1 (written-front c.args.unit (g.W.Sink.taken c.args.sink.now) (g.W.Sink.taken c.loop-packet.sink)
    (g.W.Sink.taken c.write_packet.new.sink) c.args.packets.now c.loop-packet.packet-index c.packet-item.result c.loop-packet-test.true
    c.packet-item.is c.loop-packet.invariant.sent c.in_err-write_packet.ensures.err)

pub loop-packet-preserved : goal.loop-packet-preserved
loop-packet-preserved g c = record {
  countable = c.in_ok-write_packet.ensures.failures ∙ c.loop-packet.invariant.countable;
  sent = written-more c.args.unit (g.W.Sink.taken c.args.sink.now) (g.W.Sink.taken c.loop-packet.sink)
      (g.W.Sink.taken c.write_packet.new.sink) c.args.packets.now c.loop-packet.packet-index c.packet-item.result c.loop-packet-test.true
      c.packet-item.is c.loop-packet.invariant.sent c.in_ok-write_packet.ensures.ok;
}
