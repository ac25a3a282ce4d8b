use Rattle.std.proofs.Common.{◌∙◌, Bor, ap, sym}
use Rattle.std.proofs.lemmas.List.{drop-map}
use Rattle.scenario.specs.Words.{Text, texts}
use Rattle.scenario.proofs.setup_line.option_words.Goals as goal

pub returns : goal.returns
returns c = ap texts c.split_at.ensures.back ∙ sym (drop-map (λ (one : Bor Text). one.now) 4 c.args.words.now)
