use Rattle.std.proofs.Common.{◌≡◌, ◌∙◌, true, ap, sym, arith, rules}
use Rattle.std.proofs.lemmas.Bool.{false≢true}
use Rattle.std.proofs.lemmas.Grind.{common_steps}
use Rattle.text.specs.Numbers.{is_number}
use Rattle.scenario.specs.Meanings.{is_count, number_read, with_command}
use Rattle.scenario.specs.SoFar.{Draws, so_far}
use Rattle.scenario.specs.Words.{texts, word}
use Rattle.scenario.specs.declared.line_kind.LineKind.TheVariants as line
use Rattle.scenario.proofs.LineFacts.{line-said-by, text-count}
use Rattle.scenario.proofs.event_line.read_auto.Goals as goal

pub returns-then-words-ne3 : goal.returns-then-words-ne3
returns-then-words-ne3 c = λ three. c.if-words-ne3.true (sym (text-count c.args.words.now) ∙ three)

pub returns-in_default : goal.returns-in_default
returns-in_default c = (
  text-count c.args.words.now ∙ c.if-words-ne3.false,
  λ values. c.in_default.ensures (ap is_count c.word_at.ensures ∙ values.0),
)

pub returns : goal.returns
returns c =
    let before = so_far c.args.scenario.now in
    let words = texts c.args.words.now in
    let start : is_number 10 64 (word 2 words) ≡ true = first_of (search rules, grind (arith, common_steps)) in
    let value : c.in-Some-number_of.start ≡ number_read (word 2 words) = first_of (search rules, grind (arith, common_steps)) in
    line-said-by line.Auto before (so_far c.push_command.new.scenario)
    (with_command (Draws c.in-Some.count c.in-Some-number_of.start) before) words c.push_command.result
    (record {
      count = text-count c.args.words.now ∙ c.if-words-ne3.false;
      values = (sym (ap is_count c.word_at.ensures) ∙ c.in-Some.ensures.0, start);
      names = tt;
      order = λ late. absurd (false≢true late);
    })
    (ap (λ n. with_command (Draws n c.in-Some-number_of.start) before) (c.in-Some.ensures.1 ∙ ap number_read c.word_at.ensures)
    ∙ ap (λ n. with_command (Draws (number_read (word 1 words)) n) before) value)
    c.push_command.ensures.said c.push_command.ensures.memory
