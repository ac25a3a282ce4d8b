use Rattle.bus.proofs.RegisterSetting.{other_writes_leave_frames}
use Rattle.bus.proofs.law.registers_can_be_set.Goals as goal

pub returns-clause-others : goal.returns-clause-others
returns-clause-others c = other_writes_leave_frames
