use Rattle.mdic_phy.specs.MdicLaws.{accesses_by_history}
use Rattle.mdic_phy.proofs.laws.accesses_by_history.Goals as goal

pub returns : goal.returns
returns c = accesses_by_history
