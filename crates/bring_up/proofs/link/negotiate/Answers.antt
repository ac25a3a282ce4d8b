use Rattle.std.proofs.lemmas.Result.{err_from_is_err_and}
use Rattle.bring_up.proofs.Negotiations.{negotiates, negotiates-late}
use Rattle.bring_up.proofs.link.negotiate.Goals as goal

pub returns-in_err-command-clause-negotiates : goal.returns-in_err-command-clause-negotiates
returns-in_err-command-clause-negotiates g c honest =
    let told = err_from_is_err_and c.from_residual.result c.from_residual.ensures.1 in
    rw told.1
    (negotiates-late g.B.Bus c.args.bus.now c.command.new.bus c.in_err-command.field-0.0 told.0
    (c.in_err-command.ensures.commands honest))

pub returns-clause-negotiates : goal.returns-clause-negotiates
returns-clause-negotiates g c honest =
    negotiates g.B.Bus c.args.bus.now c.command.new.bus c.in_ok-command.field-0 tt
    (c.in_ok-command.ensures.commands honest)
