-- The frames that wait at the ends of wires, before and after atomic steps (our choice).
use Rattle.std.specs.Prelude.{◌≡◌, ◌≢◌, ◌≤◌, ◌==◌, ◌++◌, ℕ, Bool, true, false, Option, Some, None, List, [], ◌∷◌, length}
use Rattle.std.specs.Prelude.{if◌then◌else◌}
use Rattle.adapter.specs.Trails.{past_of_event}
use Rattle.stations.specs.AtomicSteps.{At, AtomicStep, Idles}
use Rattle.stations.specs.Ends.{end_frames}
use Rattle.stations.specs.Stations.{StationState, backlog_after, backlog_at, wire_at}

-- Whether two hosts, which have these wires, exist and are on the same wire. A host that doesn't exist has no wire
-- (`None`).
abbrev pub is_same_wire : Option ℕ → Option ℕ → Bool
is_same_wire None other = false
is_same_wire (Some wire) None = false
is_same_wire (Some wire) (Some other) = wire == other

-- The frames that are added at another host's end when a host puts these frames: all of them if both hosts are on the
-- same wire, else none.
abbrev pub come_to : (is_same : Bool) → List (List ℕ) → List (List ℕ)
come_to is_same frames = if is_same then frames else []

-- The frames that wait at a host's end after an atomic step, if `waiting` wait before it. A delivery at this host
-- removes the oldest frame, and a frame that another host puts onto the same wire is appended.
abbrev pub waiting_after_step : (start : List StationState) (host : ℕ) → AtomicStep → List (List ℕ) → List (List ℕ)
waiting_after_step start host (At other event) waiting =
    if host == other then backlog_after event waiting
    else waiting ++ come_to (is_same_wire (wire_at start host) (wire_at start other)) (past_of_event event).put
waiting_after_step start host (Idles tick) waiting = waiting

-- The frames that wait at a host's end after these steps, if `waiting` wait before them.
abbrev pub waiting_behind : (start : List StationState) (host : ℕ) → List AtomicStep → List (List ℕ) → List (List ℕ)
waiting_behind start host [] waiting = waiting
waiting_behind start host (step ∷ later) waiting = waiting_behind start host later (waiting_after_step start host step waiting)

-- The frames that wait at a host's end after these steps from the stations `start`.
abbrev pub waiting_at : (start : List StationState) → List AtomicStep → (host : ℕ) → List (List ℕ)
waiting_at start steps host = waiting_behind start host steps (backlog_at start host)

-- Another end of the host's wire has no room for one more frame after the steps `steps`.
pub record WireIsFull (start : List StationState) (steps : List AtomicStep) (host : ℕ) : Type 0 where
  -- The number of the host at the other end.
  pub other : ℕ
  -- The other host isn't this host.
  pub is_another : other ≢ host
  -- Both hosts are on the same wire.
  pub on_wire : is_same_wire (wire_at start other) (wire_at start host) ≡ true
  -- The other end has no room for one more frame.
  pub full : end_frames ≤ length (waiting_at start steps other)
