use Rattle.search.proofs.Lists.{lists_all}
use Rattle.search.proofs.lists_all.Goals as goal

pub returns : goal.returns
returns c = lists_all
