use Rattle.std.proofs.Common.{[]}
use Rattle.std.specs.Io.KnownBytes.{append_known}
use Rattle.adapter.proofs.Keeping.{keeps-on}
use Rattle.packet_socket.specs.HostCalls.{host_at}
use Rattle.drive.specs.Exchanging.{exchange_at}
use Rattle.drive.proofs.Exchanges.{exchange-handles, exchanges-on}
use Rattle.drive.proofs.exchange.Exchange.turn.Goals as goal

pub take_all-requires-clause-memory : goal.take_all-requires-clause-memory
take_all-requires-clause-memory g c = rw (c.interrupt.ensures.only_receives.layout, c.interrupt.ensures.keeps.extent) c.requires.memory

pub returns-in_err-take_all-clause-keeps : goal.returns-in_err-take_all-clause-keeps
returns-in_err-take_all-clause-keeps g c = keeps-on g.B.Bus g.met.B.Bus.composes.lent_stays_on c.args.bus.now c.interrupt.new.bus
    c.take_all.new.bus c.interrupt.ensures.keeps c.take_all.ensures.keeps

pub returns-in-Some-clause-keeps : goal.returns-in-Some-clause-keeps
returns-in-Some-clause-keeps g c = keeps-on g.B.Bus g.met.B.Bus.composes.lent_stays_on c.args.bus.now c.interrupt.new.bus
    c.take_all.new.bus c.interrupt.ensures.keeps c.take_all.ensures.keeps

pub returns-in-None : goal.returns-in-None
returns-in-None g c =
    let text = append_known (g.S.Sink.taken c.args.sink.now) c.args.self.now.writer in
    let number = c.args.self.now.received in
    let old = host_at c.args.bus.now c.args.self.now.host in
    let mid = host_at c.interrupt.new.bus c.interrupt.new.self in
    let handled = c.interrupt.ensures in
    let new = (exchange_at c.take_all.new.bus c.take_all.new.self.host (append_known
    (g.S.Sink.taken c.take_all.new.sink) c.take_all.new.self.writer)
    c.take_all.new.self.received) in
    let all = exchanges-on g.B.Bus g.met.B.Bus.composes (exchange_at old.bus old.host text number)
    (exchange_at mid.bus mid.host text number) new [] []
    (exchange-handles g.B.Bus g.met.B.Bus.composes old mid c.interrupt.result text number handled.keeps handled.only_receives.layout
    handled.handles)
    c.in_ok-take_all.ensures.exchanges in
    record { keeps = all.keeps; exchanges = all; failures = c.in_ok-take_all.ensures.failures }
