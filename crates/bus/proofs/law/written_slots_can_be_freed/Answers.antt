use Rattle.bus.proofs.TakingSlots.{written_slots_can_be_freed}
use Rattle.bus.proofs.law.written_slots_can_be_freed.Goals as goal

pub returns : goal.returns
returns c = written_slots_can_be_freed
