use Rattle.std.proofs.Common.{refl}
use Rattle.bring_up.proofs.DriverAccesses.{lets-frames-in}
use Rattle.bring_up.proofs.Steps.{only-write}
use Rattle.bring_up.proofs.ring_registers.enable_receiver.Goals as goal

pub returns-clause-sets : goal.returns-clause-sets
returns-clause-sets g c honest = only-write refl c.receive_control.ensures (c.write.ensures.acts honest)

pub returns-clause-ran : goal.returns-clause-ran
returns-clause-ran g c d is quiet =
    lets-frames-in g.B.Bus c.args.bus.now c.write.new.self c.args.modes.promiscuous c.args.modes.by_vlan
    c.receive_control.result d
    c.receive_control.ensures (c.write.ensures.acts is.honest) is.ready quiet.none_held quiet.off
