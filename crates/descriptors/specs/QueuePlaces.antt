-- Where the frames of a queue are in its bytes (our choice): in consecutive places of 1,518 bytes. After the last place, the places wrap to
-- the first one.
use Rattle.std.specs.Prelude.{◌≡◌, ◌+◌, ◌*◌, ◌<◌, ◌≤◌, ℕ, List, [], ◌∷◌, All, length, take, drop}
use Rattle.descriptors.specs.QueuedFrames.{Frames}
use Rattle.descriptors.specs.WrappedPlaces.{wrapped}
use Rattle.descriptors.specs.declared.queue.FrameQueue.TheInside.{Inside}

-- The frames of these lengths in these bytes, each at the start of its own place. The first frame is in this place, and places wrap at the
-- capacity.
unfoldable pub placed_frames : List ℕ → ℕ → ℕ → List ℕ → List (List ℕ)
placed_frames bytes capacity place [] = []
placed_frames bytes capacity place (n ∷ ns) =
    take n (drop (wrapped capacity place * 1518) bytes) ∷ placed_frames bytes capacity (place + 1) ns

-- The plain data of a queue with these fields.
abbrev pub queue_of_places : Inside → Frames
queue_of_places queue = record {
  capacity = queue.lengths.capacity;
  frames = placed_frames queue.bytes.items queue.lengths.capacity queue.first queue.lengths.items;
}

-- The invariant of the fields of a queue with places.
pub record IsQueueOfPlaces (queue : Inside) : Type 0 where
  -- The memory has 1,518 bytes for each place.
  pub size : length queue.bytes.items ≡ queue.lengths.capacity * 1518
  -- If there are places, the place of the oldest frame is one of them.
  pub first : 0 < queue.lengths.capacity → queue.first < queue.lengths.capacity
  -- The number of frames is at most the number of places.
  pub count : length queue.lengths.items ≤ queue.lengths.capacity
  -- There are fewer than 256 places.
  pub most : queue.lengths.capacity < 256
  -- No frame has more than 1,518 bytes.
  pub fits : All (λ n. n ≤ 1518) queue.lengths.items
