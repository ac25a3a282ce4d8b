use Rattle.host_calls.proofs.Rings.{none-offered, one-taken, tails-offer}
use Rattle.host_calls.proofs.TailWrites.{receive-tail-counted, sides-stay, transmit-tail-counted}
use Rattle.host_calls.proofs.answers_law.tails_offer_slots.Goals as goal

pub returns : goal.returns
returns c = record {
  none = none-offered;
  taken = one-taken;
  places = tails-offer;
  receive = receive-tail-counted;
  transmit = transmit-tail-counted;
  enabled = sides-stay;
}
