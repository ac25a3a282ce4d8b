use Rattle.mdic_phy.specs.MdicLaws.{told_by_history}
use Rattle.mdic_phy.proofs.laws.told_by_history.Goals as goal

pub returns : goal.returns
returns c = told_by_history
