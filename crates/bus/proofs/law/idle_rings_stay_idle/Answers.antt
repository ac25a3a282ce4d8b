use Rattle.bus.proofs.IdleRings.{happenings_keep_idle}
use Rattle.bus.proofs.law.idle_rings_stay_idle.Goals as goal

pub returns-clause-happenings : goal.returns-clause-happenings
returns-clause-happenings c = happenings_keep_idle
