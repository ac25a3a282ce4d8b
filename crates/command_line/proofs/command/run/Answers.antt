use Rattle.std.proofs.Common.{refl}
use Rattle.command_line.specs.Shape.{run_app}
use Rattle.command_line.proofs.command.run.Goals as goal

pub returns : goal.returns
unfolding run_app
returns c = refl
