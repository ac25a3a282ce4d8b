use Rattle.descriptors.specs.RingLaws.{places-head, places-none, length-places, places-tail}
use Rattle.descriptors.proofs.laws.offered_places_go_from_head_to_tail.Goals as goal

pub returns : goal.returns
returns c = record { begins = places-head; empty = places-none; length = length-places; grows = places-tail }
