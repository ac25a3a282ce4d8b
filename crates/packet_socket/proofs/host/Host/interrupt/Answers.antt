use Rattle.driver.specs.HandlerSteps.{scene}
use Rattle.packet_socket.specs.HostCalls.{driver_of}
use Rattle.packet_socket.specs.InsideHost.{AreOfHost, host_inside}
use Rattle.packet_socket.proofs.HandledInterrupts.{host-handles}
use Rattle.packet_socket.proofs.ConsistentHosts.{handled-host, sorts-all}
use Rattle.packet_socket.proofs.host.Host.interrupt.Given.{Over}
use Rattle.packet_socket.proofs.host.Host.interrupt.Goals as goal

sound : (g : Over) (c : goal.After-interrupt g) → AreOfHost c.interrupt.new.self c.interrupt.new.receiver
sound g c =
    let h = c.interrupt.ensures in
    handled-host c.interrupt.result c.self.inside.driver c.interrupt.new.self c.self.inside.sockets c.interrupt.new.receiver
    c.self.invariant h.not_mine h.serves h.only_receives.layout

pub invariant_of-self : goal.invariant_of-self
invariant_of-self g c = sound g c

pub returns-clause-serves : goal.returns-clause-serves
returns-clause-serves g c = rw (← c.self.view_is)
    (sorts-all c.interrupt.result c.self.inside.driver c.interrupt.new.self c.self.inside.sockets c.interrupt.new.receiver c.self.invariant
    c.interrupt.ensures.serves)

pub returns-clause-handles : goal.returns-clause-handles
returns-clause-handles g c = rw (← c.self.view_is) (λ up is.
    let held = (driver_of (host_inside c.self.inside) (g.B.Bus.world c.args.bus.now)).handed_out in
    host-handles g.B.Bus (scene c.args.bus.now c.self.inside.driver c.self.inside.sockets)
    (scene c.interrupt.new.bus c.interrupt.new.self c.interrupt.new.receiver) c.interrupt.result
    c.self.invariant (sound g c) is c.interrupt.ensures.not_mine
    c.interrupt.ensures.serves c.interrupt.ensures.only_receives
    (c.interrupt.ensures.handles up held (record { honest = is.honest; ready = is.ready.ready })))
