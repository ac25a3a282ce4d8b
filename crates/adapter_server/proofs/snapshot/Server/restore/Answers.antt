use Rattle.std.proofs.Common.{◌≡◌, ◌++◌, ◌∙◌, Bool, true, false, not, Option, Some, refl, subst, sym}
use Rattle.std.specs.Bool.{beq, then_some}
use Rattle.adapter_server.specs.Answers.{Replies, Restores, TellsAnswer, line_between}
use Rattle.adapter_server.specs.Sessions.{copied}
use Rattle.server_output.specs.Texts.{line_moved, line_told, ok_line}
use Rattle.adapter_server.specs.declared.session.Session.{Session}
use Rattle.adapter_server.specs.declared.snapshot.Server.{Server}
use Rattle.adapter_server.proofs.Printing.{answer_none, answer_so, replied}
use Rattle.adapter_server.proofs.snapshot.Server.restore.Goals as goal

pub returns-in_default : goal.returns-in_default
returns-in_default g c =
    let a = c.args.self.now in
    subst
    (λ (saved : Option Session). TellsAnswer c.refuse.result (g.W.Write.contents c.args.out.now) (g.W.Write.contents c.refuse.new.out)
    (Restores saved a) a) (sym c.in_default.is) (replied c.refuse.result _ a _ _ c.refuse.ensures)

pub returns-in_err-session : goal.returns-in_err-session
returns-in_err-session g c = answer_none c.from_residual.result _ _ _ c.from_residual.ensures.0

-- The level is reported if it isn't the level before.
told_change : (before level : Bool) → line_told (then_some (not (beq level before)) level) ≡ line_moved before level
told_change true true = refl
told_change true false = refl
told_change false true = refl
told_change false false = refl

pub returns : goal.returns
returns g c =
    let a = c.args.self.now in
    let before = g.W.Write.contents c.args.out.now in
    let after = g.W.Write.contents c.say.new.out in
    let saved = c.in-Some.saved in
    let copy = c.in_ok-session.ensures in
    let next = copied copy.address saved in
    let placed = c.put_in_place.new.place in
    let same : placed ≡ next = c.put_in_place.ensures ∙ copy.same in
    let server : Server = record a { session = next } in
    subst (λ (kept : Option Session). TellsAnswer c.say.result before after (Restores kept a) (record a { session = placed }))
    (sym c.in-Some.is)
    (subst (λ (session : Session). TellsAnswer c.say.result before after (Restores (Some saved) a) (record a { session = session })) (sym
    same)
    (answer_so c.say.result (Replies (line_between a.session next ++ ok_line) server) (Restores (Some saved) a) (λ (s : Server). s) server
    before after (λ b text replies. (copy.address, replies))
    (replied c.say.result (line_between a.session next ++ ok_line) server before after
    (rw (c.restored_text.ensures, c.then_some.ensures, told_change, c.line-before.ensures.line, c.line-level.ensures.line)
    at c.say.ensures))))
