-- The state of the receive engine (our choice; "3.2 Packet Reception" of Intel's manual has one packet buffer and one engine).
use Rattle.std.specs.Prelude.{◌≡◌, ◌≢◌, ◌≤◌, ◌-◌, ℕ, List, [], ◌∷◌, All, length, Bool, false, Option, None}
use Rattle.std.specs.Option.{ForSome}
use Rattle.descriptors.specs.Frames.{IsLegal, longest_frame}
use Rattle.rx_engine.specs.Room.{most_room, occupied_by}
use Rattle.rx_engine.specs.declared.engine.Work.{Work}

-- The state of the receive engine.
pub record Receiver : Type 0 where
  -- The receive packet buffer: the frames in it, oldest first.
  pub buffer : List (List ℕ)
  -- The number of bytes of the oldest of these frames that have been moved to memory.
  pub moved : ℕ
  -- The piece in progress: it is in memory, and its descriptor isn't written back yet.
  pub work : Option Work
  -- Whether a fault has stopped the data step.
  pub stopped : Bool

-- An engine with an empty packet buffer and no piece in progress, which no fault has stopped.
abbrev pub new_receiver : Receiver
new_receiver = record { buffer = []; moved = 0; work = None; stopped = false }

-- The oldest frame of a packet buffer, or no bytes if the buffer is empty.
abbrev pub oldest : List (List ℕ) → List ℕ
oldest [] = []
oldest (frame ∷ frames) = frame

-- The engine has a next piece: no fault has stopped the data step, no piece is in progress, and the packet buffer isn't empty.
pub record IsReady (engine : Receiver) : Type 0 where
  -- No fault has stopped the data step.
  pub running : engine.stopped ≡ false
  -- No piece is in progress.
  pub free : engine.work ≡ None
  -- A frame is in the packet buffer.
  pub frames : engine.buffer ≢ []

-- The invariant of the receive engine: limits of its frames, of the moved bytes of the oldest frame, and of the piece in progress.
pub record IsReceiver (engine : Receiver) : Type 0 where
  -- The frames in the packet buffer occupy at most 48 kilobytes.
  pub room : occupied_by engine.buffer ≤ most_room
  -- Each frame in the packet buffer has a legal length.
  pub frames : All IsLegal engine.buffer
  -- At least one byte of the oldest frame isn't moved yet. If there is no frame, no byte is moved.
  pub begun : engine.moved ≤ length (oldest engine.buffer) - 1
  -- A piece in progress has at least one byte.
  pub least : ForSome engine.work (λ work. 1 ≤ work.length)
  -- A piece in progress is at most as long as the longest legal frame.
  pub most : ForSome engine.work (λ work. work.length ≤ longest_frame)
