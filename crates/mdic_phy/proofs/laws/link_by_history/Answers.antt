use Rattle.mdic_phy.specs.PhyLaws.{link_by_history}
use Rattle.mdic_phy.proofs.laws.link_by_history.Goals as goal

pub returns : goal.returns
returns c = link_by_history
