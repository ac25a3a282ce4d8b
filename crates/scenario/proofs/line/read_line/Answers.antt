use Rattle.std.proofs.Common.{◌≡◌, ◌∙◌, List, ap, subst, arith}
use Rattle.scenario.specs.Answers.{IsWordsAnswer}
use Rattle.scenario.specs.SoFar.{so_far}
use Rattle.scenario.specs.Words.{Text, texts, words_of}
use Rattle.scenario.proofs.LineAnswers.{line-said}
use Rattle.scenario.proofs.line.read_line.Goals as goal

pub returns : goal.returns
returns c =
    let before = so_far c.args.scenario.now in
    let after = so_far c.read_words.new.scenario in
    let line = c.args.line.now in
    let words : texts c.in_ok-words.words.items ≡ words_of line = c.in_ok-words.ensures ∙ ap words_of c.in-Ok.ensures.cases.0 in
    line-said before after line (omega arith) c.in-Ok.ensures.cases.1 c.read_words.result
    (subst (λ (said : List Text). IsWordsAnswer before said c.read_words.result after)
    (ap texts c.as_slice.ensures.value ∙ words) c.read_words.ensures)
