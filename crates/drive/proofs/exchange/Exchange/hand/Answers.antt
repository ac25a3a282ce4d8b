use Rattle.std.proofs.Common.{◌≡◌, ◌∙◌, Err, ap, refl, sym}
use Rattle.std.specs.Prelude.{not}
use Rattle.std.specs.Io.KnownBytes.{append_known}
use Rattle.packet_socket.specs.HostCalls.{host_at}
use Rattle.packet_socket.specs.HostState.{HostState}
use Rattle.drive.proofs.Exchanges.{exchange-hands, is_done}
use Rattle.driver.specs.contracts.transmit.SendError.{the_type}
use Rattle.driver.specs.declared.transmit.SendError.{SendError}
use Rattle.driver.specs.declared.transmit.SendError.TheVariants.{RingFull, TooLong, TooShort}
use denote.Enum.Bare.{sameb}
use Rattle.drive.proofs.exchange.Exchange.hand.Goals as goal

done-as : (error : SendError) → is_done (Err error) ≡ not (sameb the_type error RingFull)
done-as TooShort = refl
done-as TooLong = refl
done-as RingFull = refl

pub returns-in_default-clause-exchanges : goal.returns-in_default-clause-exchanges
returns-in_default-clause-exchanges g c = λ taken.
    let sent = c.send.ensures in
    exchange-hands g.B.Bus g.met.B.Bus.composes (host_at c.args.bus.now c.args.self.now.host) (host_at c.send.new.bus c.send.new.self)
    c.args.frame.now c.send.result _ (append_known taken c.args.self.now.writer) c.args.self.now.received sent.keeps
    (ap (λ (h : HostState). h.driver.layout) sent.others) sent.too_short sent.too_long sent.sends
    (ap is_done c.in_default.is)

pub returns-clause-exchanges : goal.returns-clause-exchanges
returns-clause-exchanges g c = λ taken.
    let sent = c.send.ensures in
    exchange-hands g.B.Bus g.met.B.Bus.composes (host_at c.args.bus.now c.args.self.now.host) (host_at c.send.new.bus c.send.new.self)
    c.args.frame.now c.send.result _ (append_known taken c.args.self.now.writer) c.args.self.now.received sent.keeps
    (ap (λ (h : HostState). h.driver.layout) sent.others) sent.too_short sent.too_long sent.sends
    (ap is_done c.in-Err.is ∙ done-as c.in-Err.error ∙ sym c.ne.ensures)
