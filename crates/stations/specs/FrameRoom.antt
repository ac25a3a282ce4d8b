-- The invariant of a frame on the heap (our choice).
use Rattle.std.specs.Prelude.{◌≤◌, length, vec_capacity}
use Rattle.descriptors.specs.Frames.{longest_frame}
use Rattle.stations.specs.declared.heap_frame.HeapFrame.TheInside.{Inside}

-- The frame has at most 1,518 bytes (`longest_frame`), and its memory has room for 1,518 bytes.
pub record HasFrameRoom (inside : Inside) : Type 0 where
  pub fits : length inside.bytes.items ≤ longest_frame
  pub room : longest_frame ≤ vec_capacity inside.bytes
