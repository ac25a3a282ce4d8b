use Rattle.adapter.specs.Calls.{at}
use Rattle.packet_socket.specs.HostCalls.{driver_of, host_at}
use Rattle.packet_socket.specs.InsideHost.{host_inside}
use Rattle.packet_socket.proofs.ChangedGroups.{host-leaves}
use Rattle.packet_socket.proofs.host.Host.leave.Goals as goal

pub returns-clause-leaves : goal.returns-clause-leaves
returns-clause-leaves g c = rw (← c.self.view_is) (λ up is.
    let old = host_at c.args.bus.now (host_inside c.self.inside) in
    host-leaves g.B.Bus old (at c.leave.new.bus c.leave.new.self) c.args.group c.leave.result is
    c.leave.ensures.not_group c.leave.ensures.not_joined
    c.leave.ensures.else_ok c.leave.ensures.refused c.leave.ensures.others c.leave.ensures.left
    (c.leave.ensures.leaves up (driver_of old.host (g.B.Bus.world old.bus)).handed_out
    (record { honest = is.honest; ready = is.ready.ready })))
