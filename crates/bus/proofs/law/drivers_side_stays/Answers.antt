use Rattle.bus.proofs.DriversSlots.{drivers_side_stays}
use Rattle.bus.proofs.law.drivers_side_stays.Goals as goal

pub returns : goal.returns
returns c = drivers_side_stays
