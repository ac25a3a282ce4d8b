-- A queue of frames in contracts (our choice).
use Rattle.std.specs.Prelude.{ℕ, List}

-- A queue's capacity, and the frames in it.
pub record Frames : Type 0 where
  -- The greatest number of frames that the queue can contain.
  pub capacity : ℕ
  -- The frames in the queue, the oldest first, each a list of bytes.
  pub frames : List (List ℕ)
