use Rattle.std.proofs.Common.{◌∙◌, Option, is_some, unwrap_or, ap, sym}
use Rattle.std.proofs.lemmas.Bool.{false≢true}
use Rattle.stations.specs.declared.tick.Tick.{Tick}
use Rattle.stations.specs.declared.tick.Tick.TheVariants as ticks
use Rattle.scenario.specs.Meanings.{with_command}
use Rattle.scenario.specs.SoFar.{Ticks, hosts_of, so_far}
use Rattle.scenario.specs.TickWords.{is_tick, tick_named}
use Rattle.scenario.specs.Words.{texts}
use Rattle.scenario.specs.declared.line_kind.LineKind.TheVariants as line
use Rattle.scenario.proofs.LineFacts.{line-said-by, text-count}
use Rattle.scenario.proofs.event_line.read_tick.Goals as goal

pub returns-then-words-ne2 : goal.returns-then-words-ne2
returns-then-words-ne2 c = λ two. c.if-words-ne2.true (sym (text-count c.args.words.now) ∙ two)

pub returns-then-not-is_tick : goal.returns-then-not-is_tick
returns-then-not-is_tick c = (
  text-count c.args.words.now ∙ c.if-words-ne2.false,
  λ form. false≢true (sym c.if-not-is_tick.true ∙ c.is_tick.ensures ∙ ap is_tick c.word_at-word.ensures ∙ form),
)

pub returns-in_default : goal.returns-in_default
returns-in_default c =
    let named = c.tick_of.ensures
    ∙ ap (λ plans. tick_named (hosts_of plans) c.word_at-word.result.now) c.hosts.ensures
    ∙ ap (tick_named (hosts_of c.args.scenario.now.plan.hosts.items)) c.word_at-word.ensures in (
      text-count c.args.words.now ∙ c.if-words-ne2.false,
      sym (ap is_tick c.word_at-word.ensures) ∙ sym c.is_tick.ensures ∙ c.if-not-is_tick.false,
      λ some. false≢true (sym (ap is_some (sym named ∙ c.in_default.is)) ∙ some),
    )

pub returns : goal.returns
returns c =
    let before = so_far c.args.scenario.now in
    let words = texts c.args.words.now in
    let named = c.tick_of.ensures
    ∙ ap (λ plans. tick_named (hosts_of plans) c.word_at-word.result.now) c.hosts.ensures
    ∙ ap (tick_named (hosts_of c.args.scenario.now.plan.hosts.items)) c.word_at-word.ensures in
    line-said-by line.Tick before (so_far c.push_command.new.scenario) (with_command (Ticks c.in-Some.tick) before) words
    c.push_command.result
    (record {
      count = text-count c.args.words.now ∙ c.if-words-ne2.false;
      values = sym (ap is_tick c.word_at-word.ensures) ∙ sym c.is_tick.ensures ∙ c.if-not-is_tick.false;
      names = ap is_some (sym named ∙ c.in-Some.is);
      order = λ late. absurd (false≢true late);
    })
    (ap (λ (one : Option Tick). with_command (Ticks (unwrap_or one ticks.Go)) before) (sym c.in-Some.is ∙ named))
    c.push_command.ensures.said c.push_command.ensures.memory
