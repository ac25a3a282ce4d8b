use Rattle.bus.proofs.Resets.{reset_forgets_slots}
use Rattle.bus.proofs.reset_law.drivers_reset.Goals as goal

pub returns-clause-forgets : goal.returns-clause-forgets
returns-clause-forgets c = reset_forgets_slots
