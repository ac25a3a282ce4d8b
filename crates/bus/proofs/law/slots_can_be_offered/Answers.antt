use Rattle.bus.proofs.SlotOffers.{slots_can_be_offered}
use Rattle.bus.proofs.law.slots_can_be_offered.Goals as goal

pub returns : goal.returns
returns c = slots_can_be_offered
