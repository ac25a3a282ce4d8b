use Rattle.std.proofs.Common.{◌∙◌, Option, Some, ap, subst, sym}
use Rattle.adapter_server.specs.Answers.{Replies, Saves, TellsAnswer}
use Rattle.adapter_server.specs.Sessions.{copied}
use Rattle.server_output.specs.Texts.{ok_line}
use Rattle.adapter_server.specs.declared.session.Session.{Session}
use Rattle.adapter_server.specs.declared.snapshot.Server.{Server}
use Rattle.adapter_server.proofs.Printing.{answer_none, answer_so, replied}
use Rattle.adapter_server.proofs.snapshot.Server.save.Goals as goal

pub returns-in_err-copy : goal.returns-in_err-copy
returns-in_err-copy g c = answer_none c.from_residual.result _ _ _ c.from_residual.ensures.0

pub returns : goal.returns
returns g c =
    let a = c.args.self.now in
    let copy = c.in_ok-copy.ensures in
    let saved : Server = record a { saved = Some (copied copy.address a.session) } in
    subst
    (λ (saved : Option Session). TellsAnswer c.say.result (g.W.Write.contents c.args.out.now) (g.W.Write.contents c.say.new.out)
    (Saves a) (record a { saved = saved })) (sym (c.put_in_place.ensures ∙ ap Some copy.same))
    (answer_so c.say.result (Replies ok_line saved) (Saves a) (λ (s : Server). s) saved _ _ (λ b text replies. (copy.address, replies))
    (replied c.say.result ok_line saved _ _ c.say.ensures))
