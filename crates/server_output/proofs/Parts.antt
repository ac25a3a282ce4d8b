-- A text to which the next part of a text, or the text of the next item of a list, is appended.
use Rattle.std.proofs.Common.{◌≡◌, ◌∙◌, ◌+◌, ◌<◌, ◌≤◌, ◌++◌, ◌∷◌, ℕ, List, Bor, length, get_or, drop, drop-cons, add-one, flat_map}
use Rattle.std.proofs.Common.{append_assoc, ap, sym}
use Rattle.std.proofs.lemmas.List.{append-nil, drop_all}
use Rattle.server_output.specs.Texts.{Text, joined_parts}

pub one_part : (parts : List (Bor Text)) (i : ℕ) (d : Bor Text) (text after all : Text) → i < length parts
    → after ≡ text ++ (get_or parts i d).now → text ++ joined_parts (drop i parts) ≡ all → after ++ joined_parts (drop (i + 1) parts) ≡ all
one_part parts i d text after all below same left =
    let next : drop i parts ≡ get_or parts i d ∷ drop (i + 1) parts = rw add-one (drop-cons parts i d below) in
    ap (λ (t : Text). t ++ joined_parts (drop (i + 1) parts)) same
    ∙ append_assoc text (get_or parts i d).now (joined_parts (drop (i + 1) parts))
    ∙ sym (ap (λ (ps : List (Bor Text)). text ++ joined_parts ps) next) ∙ left

pub all_parts : (parts : List (Bor Text)) (i : ℕ) (text all : Text) → length parts ≤ i → text ++ joined_parts (drop i parts) ≡ all
    → text ≡ all
all_parts parts i text all end left =
    sym (append-nil text) ∙ sym (ap (λ (ps : List (Bor Text)). text ++ joined_parts ps) (drop_all i parts end)) ∙ left

pub one_mapped : {X : Type 0} (f : X → Text) (xs : List X) (i : ℕ) (d : X) (text after all : Text) → i < length xs
    → after ≡ text ++ f (get_or xs i d) → text ++ flat_map f (drop i xs) ≡ all → after ++ flat_map f (drop (i + 1) xs) ≡ all
one_mapped {X} f xs i d text after all below same left =
    let next : drop i xs ≡ get_or xs i d ∷ drop (i + 1) xs = rw add-one (drop-cons xs i d below) in
    ap (λ (t : Text). t ++ flat_map f (drop (i + 1) xs)) same
    ∙ append_assoc text (f (get_or xs i d)) (flat_map f (drop (i + 1) xs))
    ∙ sym (ap (λ (ys : List X). text ++ flat_map f ys) next) ∙ left

pub all_mapped : {X : Type 0} (f : X → Text) (xs : List X) (i : ℕ) (text all : Text) → length xs ≤ i
    → text ++ flat_map f (drop i xs) ≡ all → text ≡ all
all_mapped {X} f xs i text all end left =
    sym (append-nil text) ∙ sym (ap (λ (ys : List X). text ++ flat_map f ys) (drop_all i xs end)) ∙ left
