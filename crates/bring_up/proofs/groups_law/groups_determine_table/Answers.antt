use Rattle.bring_up.proofs.Words.{tables-agree}
use Rattle.bring_up.proofs.groups_law.groups_determine_table.Goals as goal

pub returns : goal.returns
returns c = tables-agree
