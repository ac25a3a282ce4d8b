use Rattle.std.proofs.Common.{refl}
use Rattle.command_line.specs.Shape.{serve_app}
use Rattle.command_line.proofs.command.serve.Goals as goal

pub returns : goal.returns
unfolding serve_app
returns c = refl
