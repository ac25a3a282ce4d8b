use Rattle.std.proofs.Common.{ap}
use Rattle.adapter.specs.Calls.{at}
use Rattle.adapter.specs.DriverState.{DriverState}
use Rattle.packet_socket.specs.HostCalls.{driver_of, host_at}
use Rattle.packet_socket.specs.InsideHost.{host_inside}
use Rattle.packet_socket.proofs.SentFrames.{host-sends}
use Rattle.packet_socket.proofs.Intervals.{with_driver}
use Rattle.packet_socket.proofs.host.Host.send.Goals as goal

pub returns-clause-sends : goal.returns-clause-sends
returns-clause-sends g c = rw (← c.self.view_is) (λ is.
    let old = host_at c.args.bus.now (host_inside c.self.inside) in
    host-sends g.B.Bus old (at c.transmit.new.bus c.transmit.new.self) c.args.frame.now c.transmit.result is
    c.transmit.ensures.too_short c.transmit.ensures.too_long c.transmit.ensures.nothing
    (ap (λ (d : DriverState). with_driver d old.host) c.transmit.ensures.others)
    (c.transmit.ensures.transmits (driver_of old.host (g.B.Bus.world old.bus)).handed_out
    (record { honest = is.honest; ready = is.ready.ready })))
