use Rattle.std.proofs.Common.{◌∙◌, ℕ, Option, is_some, unwrap_or, ap, sym}
use Rattle.std.proofs.lemmas.Bool.{false≢true}
use Rattle.scenario.specs.Meanings.{with_command}
use Rattle.scenario.specs.SoFar.{Drains, hosts_of, host_place, so_far}
use Rattle.scenario.specs.Words.{texts}
use Rattle.scenario.specs.declared.line_kind.LineKind.TheVariants as line
use Rattle.scenario.proofs.LineFacts.{line-said-by, text-count}
use Rattle.scenario.proofs.event_line.read_drain.Goals as goal

pub returns-then-words-ne2 : goal.returns-then-words-ne2
returns-then-words-ne2 c = λ two. c.if-words-ne2.true (sym (text-count c.args.words.now) ∙ two)

pub returns-in_default : goal.returns-in_default
returns-in_default c =
    let place = c.host_named.ensures
    ∙ ap (λ name. host_place name (hosts_of c.args.scenario.now.plan.hosts.items)) c.word_at.ensures in (
      text-count c.args.words.now ∙ c.if-words-ne2.false,
      tt,
      λ some. false≢true (sym (ap is_some (sym place ∙ c.in_default.is)) ∙ some),
    )

pub returns : goal.returns
returns c =
    let before = so_far c.args.scenario.now in
    let place = c.host_named.ensures
    ∙ ap (λ name. host_place name (hosts_of c.args.scenario.now.plan.hosts.items)) c.word_at.ensures in
    line-said-by line.Drain before (so_far c.push_command.new.scenario) (with_command (Drains c.in-Some.host) before)
    (texts c.args.words.now) c.push_command.result
    (record {
      count = text-count c.args.words.now ∙ c.if-words-ne2.false;
      values = tt;
      names = ap is_some (sym place ∙ c.in-Some.is);
      order = λ late. absurd (false≢true late);
    })
    (ap (λ (one : Option ℕ). with_command (Drains (unwrap_or one 0)) before) (sym c.in-Some.is ∙ place))
    c.push_command.ensures.said c.push_command.ensures.memory
