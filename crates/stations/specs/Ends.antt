-- The states of the ends of wires: one end for each host of a network.
use Rattle.std.specs.Prelude.{◌≡◌, ◌≢◌, ◌<◌, ◌==◌, ◌&&◌, not, ℕ, Some, List, ◌++◌, length, slice_get, if◌then◌else◌}

-- The state of an end of a wire.
pub record EndState : Type 0 where
  -- The number of the wire.
  pub wire : ℕ
  -- The frames that wait at this end to be delivered, the oldest first.
  pub backlog : List (List ℕ)

-- The greatest number of frames that wait at an end (our choice).
abbrev pub end_frames : ℕ
end_frames = 64

-- If this k-th end is an end of the wire and isn't the sender's, the end has room for one more frame.
abbrev pub EndHasRoomFor : (sender wire k : ℕ) → EndState → Type 0
EndHasRoomFor sender wire k end = k ≢ sender → end.wire ≡ wire → length end.backlog < end_frames

-- Each end of the wire, except the sender's, has room for one more frame.
abbrev pub HaveRoom : List EndState → (sender wire : ℕ) → Type 0
HaveRoom ends sender wire = (k : ℕ) (end : EndState) → slice_get ends k ≡ Some end → EndHasRoomFor sender wire k end

-- The k-th end after a sender put frames onto a wire. If this end is another end of the wire, the frames wait at this end, too.
abbrev pub end_after_put : (sender wire : ℕ) → List (List ℕ) → (k : ℕ) → EndState → EndState
end_after_put sender wire frames k end =
    if not (k == sender) && (end.wire == wire) then record end { backlog = end.backlog ++ frames } else end
