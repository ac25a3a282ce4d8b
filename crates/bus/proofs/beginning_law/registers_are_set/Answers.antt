use Rattle.bus.proofs.TransmitControl.{enabled_forgets_no_work}
use Rattle.bus.proofs.beginning_law.registers_are_set.Goals as goal

pub returns-clause-work : goal.returns-clause-work
returns-clause-work c = enabled_forgets_no_work
