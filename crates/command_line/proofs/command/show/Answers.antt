use Rattle.std.proofs.Common.{refl}
use Rattle.command_line.specs.Shape.{show_app}
use Rattle.command_line.proofs.command.show.Goals as goal

pub returns : goal.returns
unfolding show_app
returns c = refl
