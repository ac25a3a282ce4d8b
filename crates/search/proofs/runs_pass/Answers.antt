use Rattle.search.proofs.Passing.{runs_pass}
use Rattle.search.proofs.runs_pass.Goals as goal

pub returns : goal.returns
returns c = runs_pass
