use Rattle.std.proofs.Common.{◌∙◌, ℕ, Bor, List, ap, ap₂, sym, take}
use Rattle.std.proofs.lemmas.List.{take-map}
use Rattle.std.specs.List.{prefix_len}
use Rattle.step_schedules.specs.Words.{Text, is_no_comment, texts}
use Rattle.step_schedules.proofs.words.words_in.Goals as goal

pub returns : goal.returns
returns c =
    let count = c.words_before_comment.ensures
    ∙ ap (λ (words : List (Bor Text)). prefix_len is_no_comment (texts words)) c.as_slice.ensures.value
    ∙ ap (prefix_len is_no_comment) c.in_ok-words.ensures in
    ap texts c.truncate.ensures.items
    ∙ sym (take-map (λ (word : Bor Text). word.now) c.words_before_comment.result c.in_ok-words.words.items)
    ∙ ap₂ (λ (n : ℕ) (words : List Text). take n words) count c.in_ok-words.ensures
