use Rattle.std.proofs.Common.{◌≡◌, ◌∷◌, ◌∙◌, [], Bool, ap, codes, if◌then◌else◌, rules, subst, sym, true}
use Rattle.std.specs.List.{concat}
use Rattle.server_output.specs.Texts.{Text}
use Rattle.adapter_server.specs.Answers.{TellsAnswer}
use Rattle.adapter_server.specs.Tasks.{Performs, named_line}
use Rattle.adapter_server.proofs.Printing.{answer_none}
use Rattle.adapter_server.proofs.access.access.Goals as goal

pub returns-in_err-name : goal.returns-in_err-name
returns-in_err-name g c = answer_none c.from_residual.result _ _ _ c.from_residual.ensures.0

pub returns-in_err-line : goal.returns-in_err-line
returns-in_err-line g c = answer_none c.from_residual-in_err-line.result _ _ _ c.from_residual-in_err-line.ensures.0

pub returns : goal.returns
returns g c =
    let a = c.args.session.now in
    let said = c.args.said.now in
    let named = named_line said c.args.task a in
    let on : a.targets ≡ true = search rules in
    let line : c.as_slice.result.now ≡ named =
    c.as_slice.ensures.value ∙ c.in_ok-line.ensures
    ∙ ap (λ (name : Text). concat (said ∷ codes " -> " ∷ name ∷ [])) (c.as_bytes.ensures.value ∙ c.in_ok-name.ensures) in
    subst
    (λ (text : Text). TellsAnswer c.perform-2.result (g.W.Write.contents c.args.out.now) (g.W.Write.contents c.perform-2.new.out)
    (Performs c.args.task text a) c.perform-2.new.session) (line ∙ sym (ap (λ (t : Bool). if t then named else said) on))
    c.perform-2.ensures
