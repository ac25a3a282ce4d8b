-- Each clause is a lemma.
use Rattle.bus.proofs.InitialStores.{last_slot_is_stored, spare_slot_is_stored, transmit_place_is_stored}
use Rattle.bus.proofs.beginning_law.rings_are_stored.Goals as goal

pub returns : goal.returns
returns c = record { last = last_slot_is_stored; spare = spare_slot_is_stored; transmit_ring = transmit_place_is_stored }
