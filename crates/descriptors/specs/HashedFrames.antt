-- The values that the frames of a queue write to a hasher (our choice).
use Rattle.std.specs.Prelude.{◌++◌, ◌∷◌, [], ℕ, List, length}
use Rattle.std.specs.Hash.{HashWrites, slice, usize}

-- What a frame feeds to a hasher: its length, and then its bytes.
abbrev pub frame_writes : List ℕ → HashWrites
frame_writes frame = usize (length frame) ++ frame ∷ []

-- What frames feed to a hasher: their number, and then each frame, the oldest first.
abbrev pub frames_writes : List (List ℕ) → HashWrites
frames_writes frames = slice frame_writes frames
