use Rattle.bus.proofs.WaitingRings.{offers_wait, transmit_stays_idle}
use Rattle.bus.proofs.law.rings_wait.Goals as goal

pub returns : goal.returns
returns c = record { offers = offers_wait; transmit_ring = transmit_stays_idle }
