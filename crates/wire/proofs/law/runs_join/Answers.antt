use Rattle.wire.proofs.Running.{runs-join}
use Rattle.wire.proofs.law.runs_join.Goals as goal

pub returns : goal.returns
returns c = runs-join
