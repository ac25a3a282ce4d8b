use borrow.Author.Tests.{tests}
use Rattle.std.proofs.Common.{◌∙◌, Bor, sym, rules}
use Rattle.std.proofs.lemmas.Iterator.{YieldsList-from_slice}
use Rattle.std.proofs.lemmas.Iterator.Search.{all_from_yields_List}
use Rattle.std.proofs.lemmas.List.Folds.{list_all-map}
use Rattle.scenario.specs.TickWords.{is_tick}
use Rattle.scenario.specs.Words.{Text}
use Rattle.scenario.proofs.event_line.are_ticks.Goals as goal

pub returns : goal.returns
returns c =
    all_from_yields_List (λ (one : Bor Text). is_tick one.now) _ _ _ c.all.ensures.ran
    (YieldsList-from_slice c.args.words.now cc) (λ x b q k. (search (rules, tests), search (rules, tests)))
    ∙ sym (list_all-map is_tick (λ (one : Bor Text). one.now) c.args.words.now)
