-- How frames are stored. One list contains for each frame its host, its socket, the number of its event or drain, and its length in bytes.
-- Another list contains the bytes of all frames, one frame after the other.
use Rattle.std.specs.Prelude.{◌≡◌, ◌≤◌, ◌∷◌, [], ℕ, List, drop, length, sum_by, take}
use Rattle.std.specs.List.{AllByRecursion}
use Rattle.descriptors.specs.Frames.{longest_frame}
use Rattle.run_record.specs.Kept.{KeptFrame, kept_frame}
use Rattle.run_record.specs.declared.kept.FrameInfo.{FrameInfo}
use Rattle.run_record.specs.declared.kept.KeptFrames.TheInside.{Inside}

-- the frame with this information and these bytes
abbrev pub frame_with : FrameInfo → List ℕ → KeptFrame
frame_with info bytes = kept_frame info.host info.socket info.number bytes

-- the frames with this information; `bytes` are their bytes, one frame after the other
abbrev pub kept_frames_from : List FrameInfo → (bytes : List ℕ) → List KeptFrame
kept_frames_from [] bytes = []
kept_frames_from (info ∷ infos) bytes = frame_with info (take info.length bytes) ∷ kept_frames_from infos (drop info.length bytes)

-- the frames that these two lists store
abbrev pub kept_frames_of : Inside → List KeptFrame
kept_frames_of inside = kept_frames_from inside.infos.items inside.bytes.items

-- the number of the frame's bytes
abbrev pub length_in : FrameInfo → ℕ
length_in info = info.length

-- the frame has at most 1,518 bytes
abbrev pub HasKeptSize : FrameInfo → Type 0
HasKeptSize info = info.length ≤ longest_frame

-- Each frame has at most 1,518 bytes, and the lengths of the frames add up to the number of stored bytes.
pub record HasKeptBytes (inside : Inside) : Type 0 where
  -- the lengths of the frames add up to the number of stored bytes
  pub bytes : sum_by length_in inside.infos.items ≡ length inside.bytes.items
  -- each frame has at most 1,518 bytes
  pub short : AllByRecursion HasKeptSize inside.infos.items
