use Rattle.search.proofs.Shorter.{smaller_is_shorter}
use Rattle.search.proofs.shrinking.smaller_is_shorter.Goals as goal

pub returns : goal.returns
returns c = smaller_is_shorter
