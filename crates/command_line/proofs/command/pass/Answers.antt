use Rattle.std.proofs.Common.{refl}
use Rattle.command_line.specs.Shape.{pass_app}
use Rattle.command_line.proofs.command.pass.Goals as goal

pub returns : goal.returns
unfolding pass_app
returns c = refl
