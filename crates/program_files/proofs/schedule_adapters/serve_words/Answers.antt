use Rattle.std.proofs.Common.{◌≡◌, ◌∙◌, ◌<◌, ◌+◌, ◌++◌, ◌∷◌, [], ℕ, List, ap, get_or, length, map, sym, take}
use Rattle.std.specs.Borrow.{Bor}
use Rattle.std.specs.Prelude.{string_bytes}
use Rattle.std.proofs.lemmas.List.{map-append, take_all, take_more}
use Rattle.text.specs.Words.{Text, texts}
use Rattle.program_files.specs.Adapters.{serve_words}
use Rattle.program_files.proofs.schedule_adapters.serve_words.Goals as goal

one_more : {X : Type 0} (text_of : X → Text) (options : List X) (option : X) (i : ℕ) (words : List (Bor Text)) (word : Bor Text)
    → texts words ≡ serve_words (map text_of (take i options)) → word.now ≡ text_of option → option ≡ get_or options i option
    → i < length options → texts (words ++ word ∷ []) ≡ serve_words (map text_of (take (i + 1) options))
one_more {X} text_of options option i words word so_far text at within =
    let taken : take (i + 1) options ≡ take i options ++ option ∷ [] =
    take_more options i option within ∙ ap (λ (one : X). take i options ++ one ∷ []) (sym at) in
    map-append (λ (one : Bor Text). one.now) words (word ∷ [])
    ∙ ap (λ (last : Text). texts words ++ last ∷ []) text
    ∙ ap (λ (first : List Text). first ++ text_of option ∷ []) so_far
    ∙ sym (ap (λ (some : List X). serve_words (map text_of some)) taken
    ∙ ap serve_words (map-append text_of (take i options) (option ∷ [])))

pub loop-option-init : goal.loop-option-init
loop-option-init c = ap texts c.in_ok-words.ensures.items

pub loop-option-preserved : goal.loop-option-preserved
loop-option-preserved c =
    ap texts c.in_ok-push.ensures.items
    ∙ one_more string_bytes _ _ _ _ _ c.loop-option.invariant c.as_str.ensures.value c.option-item.is c.loop-option-test.true

pub returns : goal.returns
returns c = c.loop-option.invariant ∙ ap (λ options. serve_words (map string_bytes options)) (take_all _ _ c.loop-option-test.false)
