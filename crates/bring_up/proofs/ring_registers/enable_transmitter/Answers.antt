use Rattle.std.proofs.Common.{refl}
use Rattle.bring_up.proofs.DriverAccesses.{lets-frames-out}
use Rattle.bring_up.proofs.Steps.{only-write}
use Rattle.bring_up.proofs.ring_registers.enable_transmitter.Goals as goal

pub returns-clause-sets : goal.returns-clause-sets
returns-clause-sets g c honest = only-write refl c.transmit_control.ensures (c.write.ensures.acts honest)

pub returns-clause-ran : goal.returns-clause-ran
returns-clause-ran g c d is ring =
    lets-frames-out g.B.Bus c.args.bus.now c.write.new.self c.transmit_control.result d
    c.transmit_control.ensures (c.write.ensures.acts is.honest) is.ready ring.oldest ring.knows
