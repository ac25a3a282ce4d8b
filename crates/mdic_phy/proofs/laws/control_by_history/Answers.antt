use Rattle.mdic_phy.specs.PhyLaws.{control_by_history}
use Rattle.mdic_phy.proofs.laws.control_by_history.Goals as goal

pub returns : goal.returns
returns c = control_by_history
