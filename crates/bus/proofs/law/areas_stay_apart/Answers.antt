use Rattle.bus.proofs.KnownMemory.{areas_stay_apart}
use Rattle.bus.proofs.law.areas_stay_apart.Goals as goal

pub returns : goal.returns
returns c = areas_stay_apart
