-- Lists of the groups that a host has joined (our choice).
use Rattle.std.specs.Prelude.{◌≡◌, ◌++◌, ◌∷◌, ℕ, List}

-- `fewer` is `groups` without one occurrence of `group`.
pub record Removes (group : List ℕ) (groups fewer : List (List ℕ)) : Type 0 where
  -- The groups before this occurrence.
  pub before : List (List ℕ)
  -- The groups after this occurrence.
  pub after : List (List ℕ)
  -- `groups` is `before`, then `group`, then `after`.
  pub had : groups ≡ before ++ group ∷ after
  -- `fewer` is `before`, then `after`.
  pub has : fewer ≡ before ++ after
