use Rattle.server_output.proofs.PartsWritten.{nothing_said, says_stop}
use Rattle.server_output.proofs.looking.say_rings.Goals as goal

pub returns-in_err-receive : goal.returns-in_err-receive
returns-in_err-receive g c =
    let contents = g.W.Write.contents c.args.out.now in
    says_stop c.from_residual.result _ contents contents c.from_residual.ensures.0 (nothing_said _ contents)

pub returns-in_err-transmit : goal.returns-in_err-transmit
returns-in_err-transmit g c =
    let contents = g.W.Write.contents c.args.out.now in
    says_stop c.from_residual-in_err-transmit.result _ contents contents c.from_residual-in_err-transmit.ensures.0 (nothing_said _ contents)
