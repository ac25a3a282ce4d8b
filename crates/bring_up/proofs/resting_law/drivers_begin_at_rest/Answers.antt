use Rattle.bring_up.proofs.RestingRings.{drivers_begin_at_rest}
use Rattle.bring_up.proofs.resting_law.drivers_begin_at_rest.Goals as goal

pub returns : goal.returns
returns c = drivers_begin_at_rest
