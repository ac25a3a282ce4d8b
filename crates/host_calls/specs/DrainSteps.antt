-- The measure of a drain, what its first steps do, and the sink of its frames (our choice).
use Rattle.std.specs.Prelude.{◌≡◌, ◌≢◌, ◌≤◌, ◌+◌, ◌*◌, ◌++◌, [], ℕ, Bool, Option, Some, None, All, List, bit_and, length, min, replicate}
use Rattle.std.specs.Prelude.{if◌then◌else◌}
use Rattle.registers.specs.Interrupts.{Interrupts}
use Rattle.rx_engine.specs.declared.engine.Work.{Work}
use Rattle.adapter.specs.World.{World}
use Rattle.stations.specs.AtomicSteps.{AtomicStep}
use Rattle.stations.specs.Stations.{StationState, world_at}
use Rattle.stations.specs.AtomicRuns.{LeadsTo, events_at}
use Rattle.host_calls.specs.Happenings.{Moved, happened_in}
use Rattle.adapter.specs.Calls.{driver_in, frames_ended}
use Rattle.packet_socket.specs.HostState.{HostState, all_of}
use Rattle.packet_socket.specs.HostCalls.{Given, host_did}
use Rattle.host_calls.specs.CallsOfHosts.{GroupsStay, HostRuns}
use Rattle.host_calls.specs.ConnectedHosts.{ConnectedHost}
use Rattle.host_calls.specs.DrainedHosts.{IsDrainStep, count_adapter_steps, count_frames, count_left}

-- The measure

-- 1 if the interrupt line is asserted, else 0
abbrev pub count_line : Interrupts → ℕ
count_line causes = min 1 (bit_and causes.recorded causes.mask)

-- 3 if a piece is in progress: for the write-back of its descriptor, an interrupt, and a call that returns a frame.
-- Otherwise 1 for an interrupt if the line is asserted (`line`), else 0.
abbrev pub count_pending : Option Work → (line : ℕ) → ℕ
count_pending None line = line
count_pending (Some work) line = 3

-- The measure of a drain, an upper bound of the number of steps that remain: four for each piece still to be moved,
-- those of `count_pending`, and one for each frame that is queued or ends in finished slots.
abbrev pub count_steps : HostState → World → ℕ
count_steps host world =
    4 * count_left world + count_pending world.adapter.receiver.work (count_line world.adapter.causes)
    + length (frames_ended (driver_in host.driver world)) + length (all_of host.queues)

-- 1 if a step was taken, else 0
abbrev pub steps_of : Bool → ℕ
steps_of stepped = if stepped then 1 else 0

-- The only happenings are that `count` frames were moved out of the receive packet buffer of host `number`. There is no
-- event at other hosts, and the filter of host `number` doesn't change.
pub record DrainMovesFrames (number : ℕ) (played : List AtomicStep) (old new : List StationState) : Type 0 where
  pub count : ℕ
  pub moved : happened_in played ≡ replicate count (Moved number)
  pub buffered : length (world_at old number).adapter.receiver.buffer ≡ count + length (world_at new number).adapter.receiver.buffer
  pub alone : (k : ℕ) → k ≢ number → events_at k played ≡ []
  -- the registers of the filter, which include RCTL, are unchanged
  pub filter : (world_at new number).adapter.filter ≡ (world_at old number).adapter.filter

-- How the measure and the counts of host `number` change in `steps` steps of a drain, in which sockets returned `given`
-- frames.
pub record CountsSteps (steps number given : ℕ) (old new : ConnectedHost) : Type 0 where
  -- the measure decreases by at least the number of steps
  pub most : steps + count_steps new.host (world_at new.stations number) ≤ count_steps old.host (world_at old.stations number)
  -- the number of steps is at least the number of returned frames plus the decrease of `count_adapter_steps`
  pub least : given + count_adapter_steps (world_at old.stations number) ≤ steps + count_adapter_steps (world_at new.stations number)
  -- the number of held frames decreases by at least the number of returned frames
  pub held : given + count_frames new.host (world_at new.stations number) ≤ count_frames old.host (world_at old.stations number)

-- `steps` consecutive steps of a drain of host `number`, in which the host's sockets returned the frames `given`.
pub record StepsOn (steps number : ℕ) (given : List Given) (old new : ConnectedHost) : Type 0 where
  pub played : List AtomicStep
  pub leads : LeadsTo number played old.stations new.stations
  pub only : All (IsDrainStep number) played
  pub taken : List (List ℕ)
  pub runs : HostRuns number played (host_did taken given []) old new
  pub stay : GroupsStay number played old new
  pub moves : DrainMovesFrames number played old.stations new.stations
  pub counts : CountsSteps steps number (length given) old new

-- The state of a sink: the frames that it has taken, and the number of further frames for which it has room.
pub record OutletState : Type 0 where
  pub frames : List Given
  pub room : ℕ

-- the state of a sink with these frames and this room
abbrev pub outlet : List Given → ℕ → OutletState
outlet frames room = record { frames = frames; room = room }

-- `steps` consecutive steps of a drain (`on`): the frames that sockets returned were appended to the sink. The room of
-- the sink decreased by at most the number of these frames.
pub record StepsInto (steps number : ℕ) (before after : OutletState) (old new : ConnectedHost) : Type 0 where
  pub given : List Given
  pub appended : after.frames ≡ before.frames ++ given
  pub room : before.room ≤ after.room + length given
  pub on : StepsOn steps number given old new
