use Rattle.bus.proofs.RegisterSetting.{many_slots_can_be_offered}
use Rattle.bus.proofs.law.many_slots_can_be_offered.Goals as goal

pub returns : goal.returns
returns c = many_slots_can_be_offered
