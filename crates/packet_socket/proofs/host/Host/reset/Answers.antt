use Rattle.adapter.specs.Calls.{at}
use Rattle.packet_socket.specs.HostCalls.{driver_of, host_at}
use Rattle.packet_socket.specs.InsideHost.{host_inside}
use Rattle.packet_socket.proofs.ResetHosts.{host-resets, reset-host}
use Rattle.packet_socket.proofs.host.Host.reset.Goals as goal

pub invariant_of-self : goal.invariant_of-self
invariant_of-self g c =
    reset-host c.self.inside.driver c.reset.new.self c.self.inside.sockets c.self.invariant c.reset.ensures.layout
    c.reset.ensures.owners

pub returns-clause-resets : goal.returns-clause-resets
returns-clause-resets g c = rw (← c.self.view_is) (λ up is.
    let old = host_at c.args.bus.now (host_inside c.self.inside) in
    host-resets g.B.Bus up old (at c.reset.new.bus c.reset.new.self) is
    c.reset.ensures.layout
    (c.reset.ensures.resets up (driver_of old.host (g.B.Bus.world old.bus)).handed_out
    (record { honest = is.honest; ready = is.ready.ready })))
