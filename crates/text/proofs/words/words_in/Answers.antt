use borrow.Author.Tests.{tests}
use Rattle.std.proofs.Common.{rules, ◌≡◌, ◌∙◌, ap, lit<, true}
use Rattle.std.specs.List.{slice_split}
use Rattle.std.specs.Str.Iter.{split_text, split_has_more, split_pattern}
use Rattle.std.proofs.lemmas.Iterator.Adapters.{YieldsList-from_flat_map}
use Rattle.std.proofs.lemmas.Iterator.Consumers.{YieldsList-at, YieldsList-from_filter, map_from_collect}
use Rattle.std.proofs.lemmas.Iterator.Splits.{YieldsList-from_str_split}
use Rattle.text.specs.Words.{is_tab, is_word}
use Rattle.text.proofs.words.words_in.Goals as goal

-- The list consists of the parts of the line between spaces, cut at tabs, if they are words.
pub returns : goal.returns
returns c =
    map_from_collect _ c.collect.ensures.ran
    (YieldsList-from_filter _ is_word
    (YieldsList-at c.filter.ensures.source
    (YieldsList-from_flat_map _ _ _ (λ x. x.now) (slice_split is_tab) _
    (λ x u q k.
    let text : split_text u ≡ x.now = search (rules, tests) in
    let more : split_has_more u ≡ true = search (rules, tests) in
    let pattern : split_pattern u ≡ 9 = search (rules, tests) in (
      search (rules, tests),
      λ j same. YieldsList-from_str_split 9 x.now (lit< tt)
          (ap split_text same ∙ text) (ap split_has_more same ∙ more) (ap split_pattern same ∙ pattern),
    ))
    (YieldsList-at c.flat_map.ensures.source
    (YieldsList-from_str_split 32 c.args.line.now (lit< tt) c.split.ensures.text c.split.ensures.has_more c.split.ensures.pattern))
    c.flat_map.ensures.closure c.flat_map.ensures.front c.flat_map.ensures.back c.flat_map.ensures.done))
    c.filter.ensures.closure (λ x r q k. search (rules, tests)))
