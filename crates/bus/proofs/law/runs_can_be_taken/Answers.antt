use Rattle.bus.proofs.RunsOfSlots.{runs_can_be_taken}
use Rattle.bus.proofs.law.runs_can_be_taken.Goals as goal

pub returns : goal.returns
returns c = runs_can_be_taken
