use Rattle.bus.proofs.SlotOffers.{frames_can_be_offered}
use Rattle.bus.proofs.law.frames_can_be_offered.Goals as goal

pub returns : goal.returns
returns c = frames_can_be_offered
