-- Paths in slices.
use Rattle.std.proofs.Common.{◌≡◌, ◌+◌, ◌-◌, ◌<◌, ◌≤◌, ◌∷◌, [], ℕ, List, add-one, arith, get_or, length, refl, set, subst, take}
use Rattle.std.proofs.Math.Seq.{take-suc, take-suc-set}
use Rattle.std.proofs.lemmas.List.{reverse-append}
use Rattle.search.specs.Searches.{path_of}
use Rattle.search.specs.declared.path.Choice.{Choice}

pub path-set : (choices : List Choice) (count : ℕ) (choice : Choice) → count < length choices
    → path_of (count + 1) (set choices count choice) ≡ choice ∷ path_of count choices
path-set choices count choice fits =
    rw (add-one, take-suc-set choices count choice fits, reverse-append (take count choices) (choice ∷ [])) refl

pub path-cons : (choices : List Choice) (count : ℕ) (none : Choice) → count < length choices
    → path_of (count + 1) choices ≡ get_or choices count none ∷ path_of count choices
path-cons choices count none fits =
    rw (add-one, take-suc choices count none fits, reverse-append (take count choices) (get_or choices count none ∷ [])) refl

abbrev pub no_choice : Choice
no_choice = record { place = record { key = record { one = 0; two = 0 }; possible = 0 }; left = 0; taken = 0 }

pub split : (choices : List Choice) (count : ℕ) → (count ≡ 0 → ⊥) → count ≤ length choices
    → path_of count choices ≡ get_or choices (count - 1) no_choice ∷ path_of (count - 1) choices
split choices count some fits =
    let is : count - 1 + 1 ≡ count = omega (arith, some) in
    subst (λ n. path_of n choices ≡ get_or choices (count - 1) no_choice ∷ path_of (count - 1) choices) is
    (path-cons choices (count - 1) no_choice (omega (arith, some, fits)))

pub written : (choices : List Choice) (count : ℕ) (choice : Choice) → (count ≡ 0 → ⊥) → count ≤ length choices
    → path_of count (set choices (count - 1) choice) ≡ choice ∷ path_of (count - 1) choices
written choices count choice some fits =
    let is : count - 1 + 1 ≡ count = omega (arith, some) in
    subst (λ n. path_of n (set choices (count - 1) choice) ≡ choice ∷ path_of (count - 1) choices) is
    (path-set choices (count - 1) choice (omega (arith, some, fits)))
