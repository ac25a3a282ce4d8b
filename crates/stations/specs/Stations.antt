-- The states of the stations of a network, and how an event at one host changes the stations of all hosts (our choice).
use Rattle.std.specs.Prelude.{◌≡◌, ◌≢◌, ◌<◌, ◌==◌, ◌&&◌, not, ℕ, suc, Option, Some, None, List, [], ◌∷◌, ◌++◌, drop, length, slice_get}
use Rattle.std.specs.Prelude.{if◌then◌else◌}
use Rattle.mdic_phy.specs.declared.phy.Link.TheVariants.{Never}
use Rattle.adapter.specs.Registers.{new_adapter}
use Rattle.adapter.specs.World.{World}
use Rattle.adapter.specs.Trails.{past_of_event, world_after}
use Rattle.adapter.specs.bus_types.event.Event.{Event}
use Rattle.adapter.specs.bus_types.event.Event.TheVariants.{Accesses, Arrives, Steps}
use Rattle.stations.specs.Ends.{end_frames}

-- A host's adapter and memory, and its end of a wire.
pub record StationState : Type 0 where
  -- The host's adapter and memory.
  pub world : World
  -- The number of the host's wire.
  pub wire : ℕ
  -- The frames that wait to be delivered at the host's end of the wire, the oldest first.
  pub backlog : List (List ℕ)

-- The parts of a station. A host that doesn't exist also has these parts: an empty memory, a new adapter with an empty
-- EEPROM and a link that is never up, no wire, and no waiting frame.

-- The adapter and the memory of a station.
abbrev pub world_of : Option StationState → World
world_of None = record { memory = []; adapter = new_adapter [] Never }
world_of (Some station) = station.world

-- The number of a station's wire; None if there is no station.
abbrev pub wire_of : Option StationState → Option ℕ
wire_of None = None
wire_of (Some station) = Some station.wire

-- The frames that wait at a station's end of its wire, the oldest first.
abbrev pub backlog_of : Option StationState → List (List ℕ)
backlog_of None = []
backlog_of (Some station) = station.backlog

-- The adapter and the memory of the host with this number.
abbrev pub world_at : List StationState → (host : ℕ) → World
world_at stations host = world_of (slice_get stations host)

-- The number of the wire of the host with this number; None if there is no such host.
abbrev pub wire_at : List StationState → (host : ℕ) → Option ℕ
wire_at stations host = wire_of (slice_get stations host)

-- The frames that wait at the end of the host with this number, the oldest first.
abbrev pub backlog_at : List StationState → (host : ℕ) → List (List ℕ)
backlog_at stations host = backlog_of (slice_get stations host)

-- If this station of host `host` is on the wire and isn't the sender's, the station's end has room for one more frame.
abbrev pub HasRoomFrom : (sender wire host : ℕ) → StationState → Type 0
HasRoomFrom sender wire host station = host ≢ sender → station.wire ≡ wire → length station.backlog < end_frames

-- Each end of the wire, except the sender's, has room for one more frame.
abbrev pub WireHasRoom : List StationState → (sender wire : ℕ) → Type 0
WireHasRoom stations sender wire =
    (host : ℕ) (station : StationState) → slice_get stations host ≡ Some station → HasRoomFrom sender wire host station

-- The frames that wait at a host's end after an event at this host: an arrival removes the oldest.
abbrev pub backlog_after : Event → List (List ℕ) → List (List ℕ)
backlog_after (Steps kind wire_free answer) backlog = backlog
backlog_after (Arrives frame fate) backlog = drop 1 backlog
backlog_after (Accesses access) backlog = backlog

-- The station of a host after an event at this host.
abbrev pub station_after : Event → StationState → StationState
station_after event station = record station {
  world = world_after event station.world;
  backlog = backlog_after event station.backlog;
}

-- The station after a sender put frames onto a wire. If the station's end is another end of this wire, the frames wait at this end,
-- too.
abbrev pub with_frames : (sender wire : ℕ) → List (List ℕ) → (host : ℕ) → StationState → StationState
with_frames sender wire frames host station =
    if not (host == sender) && (station.wire == wire) then record station { backlog = station.backlog ++ frames } else station

-- The k-th station after an event at the host `host`, which is on the wire `wire`.
abbrev pub each_after : (host wire : ℕ) → Event → (k : ℕ) → StationState → StationState
each_after host wire event k station =
    if k == host then station_after event station else with_frames host wire (past_of_event event).put k station

-- Each station changed by `change` with its number, if the first of these stations has number k.
abbrev pub at_each : (ℕ → StationState → StationState) → ℕ → List StationState → List StationState
at_each change k [] = []
at_each change k (station ∷ later) = change k station ∷ at_each change (suc k) later

-- All stations after an event at the host `host`, whose station is the first argument; unchanged if there is no station.
abbrev pub all_after : Option StationState → (host : ℕ) → Event → List StationState → List StationState
all_after None host event stations = stations
all_after (Some station) host event stations = at_each (each_after host station.wire event) 0 stations

-- All stations after an event at a host; unchanged if there is no such host.
abbrev pub stations_after : (host : ℕ) → Event → List StationState → List StationState
stations_after host event stations = all_after (slice_get stations host) host event stations
