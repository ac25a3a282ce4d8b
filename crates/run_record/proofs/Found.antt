-- What `get` of a slice found, as `slice_get` of the list.
use Rattle.std.proofs.Common.{◌≡◌, ◌<◌, ◌≤◌, ℕ, true, false, List, Some, None, ap, arith}
use Rattle.std.proofs.Common.{length, nat_lt, slice_get, slice_index_or, sym, ◌∙◌}
use Rattle.std.proofs.lemmas.Option.{slice_get-get_or, slice_get_past}

below : (a b : ℕ) → true ≡ nat_lt a b → a < b
below a b is = grind arith

beyond : (a b : ℕ) → false ≡ nat_lt a b → b ≤ a
beyond a b is = grind arith

pub item-found : {X : Type 0} (xs : List X) (place : ℕ) (x : X) → true ≡ nat_lt place (length xs) → x ≡ slice_index_or xs place x
    → slice_get xs place ≡ Some x
item-found {X} xs place x within is =
    slice_get-get_or xs place x (below place (length xs) within) ∙ ap (λ (one : X). Some one) (sym is)

pub none-found : {X : Type 0} (xs : List X) (place : ℕ) → false ≡ nat_lt place (length xs) → slice_get xs place ≡ None
none-found xs place past = slice_get_past xs place (beyond place (length xs) past)
