use Rattle.std.proofs.Common.{refl}
use Rattle.command_line.specs.Shape.{drive_app}
use Rattle.command_line.proofs.command.drive.Goals as goal

pub returns : goal.returns
unfolding drive_app
returns c = refl
