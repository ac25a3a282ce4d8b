-- Frames whose bytes follow one another in a list of bytes (our choice).
use Rattle.std.specs.Prelude.{◌≡◌, ◌+◌, ◌<◌, ◌≤◌, ℕ, List, [], ◌∷◌, length, take, drop, sum_by}
use Rattle.descriptors.specs.declared.packed.PackedQueue.TheInside.{Inside}

-- A queue's limits, and the frames in it.
pub record PackedFrames : Type 0 where
  -- The greatest number of frames that the queue can contain.
  pub capacity : ℕ
  -- The greatest number of bytes that all frames in the queue can have together.
  pub room : ℕ
  -- The frames in the queue, the oldest first, each a list of bytes.
  pub frames : List (List ℕ)

-- The sum of these lengths.
abbrev pub total : List ℕ → ℕ
total ns = sum_by (λ (n : ℕ). n) ns

-- The frames of these lengths whose bytes follow one another, from the start of a list of bytes on.
unfoldable pub cut : List ℕ → List ℕ → List (List ℕ)
cut [] bytes = []
cut (n ∷ ns) bytes = take n bytes ∷ cut ns (drop n bytes)

-- The plain data of a packed queue with these fields.
abbrev pub packed_of : Inside → PackedFrames
packed_of queue = record {
  capacity = queue.lengths.capacity;
  room = length queue.bytes.items;
  frames = cut queue.lengths.items (drop queue.first queue.bytes.items);
}

-- The invariant of the fields of a packed queue.
pub record IsPacked (queue : Inside) : Type 0 where
  -- The bytes of the frames follow one another from `first` up to `end`.
  pub end_is : queue.end ≡ queue.first + total queue.lengths.items
  -- These bytes are inside the queue's memory.
  pub fits : queue.end ≤ length queue.bytes.items
  -- The number of frames is at most the capacity.
  pub count : length queue.lengths.items ≤ queue.lengths.capacity
  -- The capacity is below 65,536.
  pub most : queue.lengths.capacity < 65536
