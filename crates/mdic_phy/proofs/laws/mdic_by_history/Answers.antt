use Rattle.mdic_phy.specs.MdicLaws.{mdic_by_history}
use Rattle.mdic_phy.proofs.laws.mdic_by_history.Goals as goal

pub returns : goal.returns
returns c = mdic_by_history
