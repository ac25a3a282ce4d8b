use borrow.Author.Tests.{tests}
use Rattle.std.proofs.Common.{◌∙◌, Bor, sym, rules}
use Rattle.std.proofs.lemmas.Iterator.{YieldsList-from_slice}
use Rattle.std.proofs.lemmas.Iterator.Search.{position_from_yields_List}
use Rattle.text.specs.Words.{Text, is_same}
use Rattle.text.proofs.Places.{position-map}
use Rattle.text.proofs.words.place_of.Goals as goal

pub returns-clause-place : goal.returns-clause-place
returns-clause-place c =
    position_from_yields_List (λ (one : Bor Text). is_same c.args.mark.now one.now) _ _ _ c.position.ensures.ran
    (YieldsList-from_slice c.args.words.now cc) (λ x b q k. (search (rules, tests), search (rules, tests)))
    ∙ sym (position-map (is_same c.args.mark.now) (λ (one : Bor Text). one.now) c.args.words.now)
