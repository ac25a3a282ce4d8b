use Rattle.adapter.specs.Calls.{at}
use Rattle.packet_socket.specs.HostCalls.{driver_of, host_at}
use Rattle.packet_socket.specs.InsideHost.{host_inside}
use Rattle.packet_socket.proofs.ChangedGroups.{host-joins}
use Rattle.packet_socket.proofs.host.Host.join.Goals as goal

pub returns-clause-joins : goal.returns-clause-joins
returns-clause-joins g c = rw (← c.self.view_is) (λ up is.
    let old = host_at c.args.bus.now (host_inside c.self.inside) in
    host-joins g.B.Bus old (at c.join.new.bus c.join.new.self) c.args.group c.join.result is
    c.join.ensures.not_group c.join.ensures.joined c.join.ensures.full
    c.join.ensures.else_ok c.join.ensures.refused c.join.ensures.others c.join.ensures.room
    (c.join.ensures.joins up (driver_of old.host (g.B.Bus.world old.bus)).handed_out
    (record { honest = is.honest; ready = is.ready.ready })))
