use Rattle.server_output.proofs.PartsWritten.{nothing_said, says_stop}
use Rattle.server_output.proofs.output.say_base64.Goals as goal

pub returns-in_err-word : goal.returns-in_err-word
returns-in_err-word g c =
    let contents = g.W.Write.contents c.args.out.now in
    says_stop c.from_residual.result _ contents contents c.from_residual.ensures.0 (nothing_said _ contents)
