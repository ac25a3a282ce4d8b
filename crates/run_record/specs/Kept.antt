-- The frames that adapters put on wires and that sockets return in a run, each with the number of its event or drain (our choice).
use Rattle.std.specs.Prelude.{◌≡◌, ◌==◌, ◌&&◌, ◌++◌, ◌∷◌, [], ℕ, Bool, List, Option, if◌then◌else◌, map, option_map}
use Rattle.std.specs.List.{flat_map}
use Rattle.host_calls.specs.Happenings.{Given, Happening, Put}
use Rattle.pcap_trace.specs.Format.{Timed}
use Rattle.run_record.specs.Acts.{Act, said_in}
use Rattle.run_record.specs.Numbers.{next_number}

-- a frame whose time is this number
abbrev pub numbered_frame : (number : ℕ) → List ℕ → Timed
numbered_frame number frame = record { time = number; frame = frame }

-- a frame that a host's adapter put on its wire, or that a host's socket returned
pub record KeptFrame : Type 0 where
  -- the host's number
  pub host : ℕ
  -- the number of the socket that returned the frame, or 0 for a frame that was put
  pub socket : ℕ
  -- the frame, with its time
  pub frame : Timed

-- this frame of this host and this socket, with the number of its event or drain as its time
abbrev pub kept_frame : (host socket number : ℕ) → List ℕ → KeptFrame
kept_frame host socket number frame = record { host = host; socket = socket; frame = numbered_frame number frame }

-- the frame of a happening, if an adapter put the frame on its wire; `number` is the number of the event or drain
abbrev pub put_frame_in : (number : ℕ) → Happening → List KeptFrame
put_frame_in number (Put host frame) = kept_frame host 0 number frame ∷ []
put_frame_in number one = []

-- the frames that adapters put in these happenings of the event or drain with this number, in order
abbrev pub put_frames_in : (number : ℕ) → List Happening → List KeptFrame
put_frames_in number happened = flat_map (put_frame_in number) happened

-- the frame of a happening, if a socket returned the frame; `number` is the number of the event or drain
abbrev pub returned_frame_in : (number : ℕ) → Happening → List KeptFrame
returned_frame_in number (Given host socket frame) = kept_frame host socket number frame ∷ []
returned_frame_in number one = []

-- the frames that sockets returned in these happenings of the event or drain with this number, in order
abbrev pub returned_in : (number : ℕ) → List Happening → List KeptFrame
returned_in number happened = flat_map (returned_frame_in number) happened

-- The frames that `chosen` selects from the happenings of these acts, in order. The first act has this number.
abbrev pub chosen_from : (chosen : ℕ → Happening → List KeptFrame) → (number : ℕ) → List Act → List KeptFrame
chosen_from chosen number [] = []
chosen_from chosen number (act ∷ acts) = flat_map (chosen number) (said_in act) ++ chosen_from chosen (next_number number) acts

-- The frames that adapters put in these acts, in order. The first act has this number.
abbrev pub put_from : (number : ℕ) → List Act → List KeptFrame
put_from number acts = chosen_from put_frame_in number acts

-- The frames that sockets return in these acts, in order. The first act has this number.
abbrev pub returned_from : (number : ℕ) → List Act → List KeptFrame
returned_from number acts = chosen_from returned_frame_in number acts

-- the frames whose host and socket pass a test, in order
abbrev pub frames_where : (test : (host socket : ℕ) → Bool) → List KeptFrame → List Timed
frames_where test [] = []
frames_where test (one ∷ others) = (if test one.host one.socket then one.frame ∷ [] else []) ++ frames_where test others

-- whether `host` and `socket` are the numbers k and s
abbrev pub is_of_socket : (k s : ℕ) → (host socket : ℕ) → Bool
is_of_socket k s host socket = (k == host) && (s == socket)

-- For each of these sockets, the frames in `returned` that the socket returned, in order. An item of `sockets` is the number of the
-- socket's host, and the socket's number.
abbrev pub socket_texts : List KeptFrame → (sockets : List (ℕ × ℕ)) → List (List Timed)
socket_texts returned sockets = map (λ (place : ℕ × ℕ). frames_where (is_of_socket place.0 place.1) returned) sockets

-- Recorded frames.

-- `new` is `old` with the frames `more` appended.
abbrev pub FramesGrow : List KeptFrame → (old new : List KeptFrame) → Type 0
FramesGrow more old new = new ≡ old ++ more

-- If `old` is a list of frames that were put, `new` is this list with the frames `more` appended. Otherwise `new` is no list either.
abbrev pub PutsGrow : List KeptFrame → (old new : Option (List KeptFrame)) → Type 0
PutsGrow more old new = new ≡ option_map (λ (puts : List KeptFrame). puts ++ more) old
