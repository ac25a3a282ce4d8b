use Rattle.bus.proofs.KnownRings.{receive_tail-written, transmit_tail-written}
use Rattle.bus.proofs.law.tails_can_be_moved.Goals as goal

pub returns : goal.returns
returns c = record { receive = receive_tail-written; transmit = transmit_tail-written }
