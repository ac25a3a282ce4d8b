use Rattle.bus.proofs.DriversStores.{drivers_stores_leave_foreign, drivers_stores_leave_frames}
use Rattle.bus.proofs.law.drivers_stores_leave_frames.Goals as goal

pub returns : goal.returns
returns c = record { frames = drivers_stores_leave_frames; foreign = drivers_stores_leave_foreign }
