use Rattle.bring_up.proofs.RestingRings.{drivers_begin_again}
use Rattle.bring_up.proofs.resting_law.drivers_begin_again.Goals as goal

pub returns : goal.returns
returns c = drivers_begin_again
