use Rattle.bring_up.proofs.Steps.{only-ring}
use Rattle.bring_up.proofs.TransmitWrites.{sets-transmit_ring}
use Rattle.bring_up.proofs.ring_registers.set_transmit_ring.Goals as goal

pub returns-clause-sets : goal.returns-clause-sets
returns-clause-sets g c honest = only-ring g.met.B.Bus.composes.joins (c.write_ring.ensures.writes honest)

pub returns-clause-ran : goal.returns-clause-ran
returns-clause-ran g c d is can = sets-transmit_ring g.met.B.Bus.composes.joins can (c.write_ring.ensures.writes is.honest) is.ready
