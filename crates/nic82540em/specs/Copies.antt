-- Texts that are copied to an area of C, as far as there is room.
use Rattle.std.specs.Prelude.{◌≡◌, ◌<◌, ◌≤◌, ◌++◌, ℕ, List, drop, length, take}

-- The beginning of a text is copied to the beginning of an area, as far as there is room. The answer is the length of the text.
pub record CopiesFront (text old new : List ℕ) (answer : ℕ) : Type 0 where
  -- the answer is the length of the text
  pub length_is : answer ≡ length text
  -- if the text fits, it is at the beginning of the area, and the rest of the area is unchanged
  pub fits : length text ≤ length old → new ≡ text ++ drop (length text) old
  -- if the text doesn't fit, its beginning fills the area
  pub cut : length old < length text → new ≡ take (length old) text
