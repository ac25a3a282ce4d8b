use Rattle.std.proofs.Common.{◌≡◌, ◌∙◌, ◌++◌, List, ap, length, rules, sym}
use Rattle.std.proofs.lemmas.List.{length-map}
use Rattle.std.specs.Borrow.{Bor}
use Rattle.std.specs.List.{filter, slice_split}
use Rattle.text.specs.Words.{Text, is_word, texts, words_of}
use Rattle.server_requests.specs.Reading.{request_in}
use Rattle.server_requests.specs.Words.{is_blank}
use Rattle.server_requests.proofs.Cutting.{five_words, words_once}
use Rattle.server_requests.proofs.FewWords.{asked_by_few}
use Rattle.server_requests.proofs.words.words_in.Goals as goal

pub loop-rest-init : goal.loop-rest-init
loop-rest-init c =
    let line = c.args.line.now in (
      search rules,
      ap (λ (items : List (Bor Text)). texts items ++ filter is_word (slice_split is_blank line)) c.new-words.ensures
          ∙ sym (words_once line),
    )

pub returns-clause-words : goal.returns-clause-words
returns-clause-words c =
    let items = c.loop-rest.words.items in
    let full : length items ≡ 5 = search rules in
    five_words c.args.line.now (texts items) (filter is_word (slice_split is_blank c.loop-rest.rest.now)) c.loop-rest.invariant.1
    (length-map items (λ (word : Bor Text). word.now) ∙ full)

pub returns-clause-asked : goal.returns-clause-asked
returns-clause-asked c = ap request_in (returns-clause-words c) ∙ asked_by_few (words_of c.args.line.now)
