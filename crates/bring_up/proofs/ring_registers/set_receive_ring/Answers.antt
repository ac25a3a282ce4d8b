use Rattle.bring_up.proofs.RestingRings.{rests-ring}
use Rattle.bring_up.proofs.Steps.{only-ring}
use Rattle.bring_up.proofs.ring_registers.set_receive_ring.Goals as goal

pub returns-clause-sets : goal.returns-clause-sets
returns-clause-sets g c honest = only-ring g.met.B.Bus.composes.joins (c.write_ring.ensures.writes honest)

pub returns-clause-rests : goal.returns-clause-rests
returns-clause-rests g c rx honest size first long =
    rests-ring g.met.B.Bus.composes.joins first long size (c.write_ring.ensures.writes honest)
