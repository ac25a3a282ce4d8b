use Rattle.mdic_phy.specs.PhyLaws.{latch_by_history}
use Rattle.mdic_phy.proofs.laws.latch_by_history.Goals as goal

pub returns : goal.returns
returns c = latch_by_history
