use Rattle.std.proofs.Common.{rules}
use Rattle.server_output.proofs.HeardOne.{wrote_so}
use Rattle.server_output.proofs.telling.Lines.say_request.Goals as goal

pub returns-then-is_none-clause-text : goal.returns-then-is_none-clause-text
returns-then-is_none-clause-text g c =
    wrote_so c.say_parts.result c.args.self.now.stopped _ _ _ _ (search rules) c.err-self.ensures.value (search rules)
