-- Lemmas about the texts of words in memory: the word at an index, and the words before and after the first word that is `mark`.
use Rattle.std.proofs.Common.{◌≡◌, ◌∙◌, ◌+◌, ◌-◌, ◌<◌, ℕ, List, [], Some, Bor, length, get_or, take, drop}
use Rattle.std.proofs.Common.{ap, arith, length-drop, sym}
use Rattle.std.proofs.lemmas.List.{drop-map, get_or-map, take-map, take_all}
use Rattle.std.specs.List.{position}
use Rattle.text.specs.Words.{Text, is_same, texts, word, words_after, words_before}
use Rattle.text.proofs.Places.{place-found}

pub at_texts : (words : List (Bor Text)) (place : ℕ) (one : Bor Text) → place < length words
    → one ≡ get_or words place one
    → one.now ≡ word place (texts words)
at_texts words place one below here =
    ap (λ (w : Bor Text). w.now) here ∙ sym (get_or-map (λ (w : Bor Text). w.now) words place one [] below)

pub before_mark : (mark : Text) (words : List (Bor Text)) (k : ℕ) → Some k ≡ position (is_same mark) (texts words)
    → texts (take k words) ≡ words_before mark (texts words)
before_mark mark words k found =
    sym (take-map (λ (w : Bor Text). w.now) k words)
    ∙ ap (λ n. take n (texts words)) (place-found (is_same mark) (texts words) k found)

pub after_mark : (mark : Text) (words : List (Bor Text)) (k : ℕ) → Some k ≡ position (is_same mark) (texts words)
    → texts (take (length words - (k + 1)) (drop (k + 1) words)) ≡ words_after mark (texts words)
after_mark mark words k found =
    let count = length-drop (k + 1) words in
    ap texts (take_all (length words - (k + 1)) (drop (k + 1) words) (omega arith))
    ∙ sym (drop-map (λ (w : Bor Text). w.now) (k + 1) words)
    ∙ ap (λ n. drop (n + 1) (texts words)) (place-found (is_same mark) (texts words) k found)
