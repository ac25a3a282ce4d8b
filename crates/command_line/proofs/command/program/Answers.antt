use Rattle.std.specs.Prelude.{IfOk}
use Rattle.std.proofs.Common.{◌≡◌, subst}
use Rattle.clap.specs.Words.{App, app_of}
use Rattle.command_line.proofs.Adding.{whole_program}
use Rattle.command_line.proofs.command.program.Goals as goal

pub returns-clause-app : goal.returns-clause-app
returns-clause-app c =
    subst (λ (app : App). IfOk c.program_with.result (λ command. app_of command ≡ app))
    (whole_program c.pass.result c.run.result c.show.result c.serve.result c.drive.result c.pass.ensures c.run.ensures c.show.ensures
    c.serve.ensures c.drive.ensures)
    c.program_with.ensures.app
