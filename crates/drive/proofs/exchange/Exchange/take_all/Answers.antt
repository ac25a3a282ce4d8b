use Rattle.std.proofs.Common.{ap, sym}
use Rattle.std.proofs.lemmas.List.{length-take-le}
use Rattle.std.specs.Io.KnownBytes.{append_known}
use Rattle.adapter.proofs.Keeping.{keeps-on}
use Rattle.packet_socket.specs.HostCalls.{host_at}
use Rattle.packet_socket.specs.HostState.{HostState}
use Rattle.drive.specs.Exchanging.{moment_of}
use Rattle.drive.proofs.Exchanges.{exchange-receives, goes-here, goes-on}
use Rattle.drive.proofs.exchange.Exchange.take_all.Goals as goal

pub loop-count-init : goal.loop-count-init
loop-count-init g c =
    goes-here g.B.Bus g.met.B.Bus.composes (moment_of c.args.bus.now c.args.self.now (g.S.Sink.taken c.args.sink.now))
    (g.S.Sink.failures c.args.sink.now) c.requires.memory

pub slice_bounds-frame-end : goal.slice_bounds-frame-end
slice_bounds-frame-end g c = rw (c.recv.array_long) c.in-Ok.ensures.ok.legal.most

pub slice_bounds-write-end : goal.slice_bounds-write-end
slice_bounds-write-end g c =
    sym (length-take-le c.in-Ok.size c.recv.new.into (rw (c.recv.array_long) c.in-Ok.ensures.ok.legal.most))

pub write-requires : goal.write-requires
write-requires g c = record {
  countable = rw c.loop-count.invariant.failures c.requires.countable;
  short = rw (length-take-le c.in-Ok.size c.recv.new.into (rw (c.recv.array_long) c.in-Ok.ensures.ok.legal.most))
      c.in-Ok.ensures.ok.legal.most;
}

pub loop-count-preserved : goal.loop-count-preserved
loop-count-preserved g c =
    let l = c.loop-count in
    let old = host_at l.bus l.self.host in
    let new = host_at c.recv.new.bus c.recv.new.self in
    let text = append_known (g.S.Sink.taken l.sink) l.self.writer in
    let text' = append_known (g.S.Sink.taken c.write.new.sink) c.write.new.self in
    let received = c.in-Ok.ensures in
    goes-on g.met.B.Bus.composes l.invariant
    (rw (c.saturating_add-self.ensures)
    (exchange-receives g.B.Bus g.met.B.Bus.composes old new c.in-Ok.size c.recv.new.into text text' l.self.received received.keeps
    (ap (λ (h : HostState). h.driver.layout) received.ok.others) received.receives c.in_ok-write.ensures.ok))
    c.in_ok-write.ensures.failures

pub returns-in_err-write-clause-keeps : goal.returns-in_err-write-clause-keeps
returns-in_err-write-clause-keeps g c = keeps-on g.B.Bus g.met.B.Bus.composes.lent_stays_on c.args.bus.now c.loop-count.bus
    c.recv.new.bus c.loop-count.invariant.exchanges.keeps c.recv.ensures.keeps

pub returns-in-None : goal.returns-in-None
returns-in-None g c =
    let all = c.loop-count.invariant in
    record { keeps = all.exchanges.keeps; exchanges = all.exchanges; failures = all.failures }

pub returns-in_default : goal.returns-in_default
returns-in_default g c =
    let all = c.loop-count.invariant in
    let same = c.in_default.ensures.err in
    rw (same.0, same.1) (record { keeps = all.exchanges.keeps; exchanges = all.exchanges; failures = all.failures })
