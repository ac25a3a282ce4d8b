use Rattle.std.proofs.Common.{◌≡◌, ◌∙◌, Some, ap, sym}
use Rattle.scenario.specs.Kinds.{line_kind_named}
use Rattle.scenario.specs.SoFar.{so_far}
use Rattle.scenario.specs.Words.{texts, word}
use Rattle.scenario.proofs.LineAnswers.{skipped-said, words-there, words-said}
use Rattle.scenario.proofs.line.read_words.Goals as goal

pub returns-then-is_skipped : goal.returns-then-is_skipped
returns-then-is_skipped c =
    skipped-said (so_far c.args.scenario.now) (texts c.args.words.now) (sym c.is_skipped.ensures ∙ c.if-is_skipped.true)

pub word_at-requires : goal.word_at-requires
word_at-requires c = words-there c.args.words.now (sym c.is_skipped.ensures ∙ c.if-is_skipped.false)

pub returns-in-None : goal.returns-in-None
returns-in-None c = (
  sym c.is_skipped.ensures ∙ c.if-is_skipped.false,
  ap line_kind_named (sym c.word_at.ensures) ∙ sym c.kind_of.ensures ∙ c.in-None.is,
)

pub returns-in-Some : goal.returns-in-Some
returns-in-Some c =
    let words = texts c.args.words.now in
    let named : line_kind_named (word 0 words) ≡ Some c.in-Some.kind =
    ap line_kind_named (sym c.word_at.ensures) ∙ sym c.kind_of.ensures ∙ c.in-Some.is in
    words-said (so_far c.args.scenario.now) (so_far c.read_kind.new.scenario) words c.in-Some.kind
    (sym c.is_skipped.ensures ∙ c.if-is_skipped.false) named c.read_kind.result c.read_kind.ensures
