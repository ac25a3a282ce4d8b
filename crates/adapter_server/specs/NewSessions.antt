-- The state before the first request (our choice).
use denote.RawPtr.{Ptr}
use Rattle.std.specs.Prelude.{[]}
use Rattle.registers.specs.ConfigSpace.{new_function}
use Rattle.std.specs.Prelude.{None, Option, false}
use Rattle.std.specs.Prelude.{replicate}
use Rattle.std.specs.Option.{option_map}
use Rattle.step_schedules.specs.Agendas.{AgendaState}
use Rattle.step_schedules.specs.Players.{RecorderState}
use Rattle.step_schedules.specs.declared.player.Player.{Player}
use Rattle.adapter.specs.State.{AdapterState}
use Rattle.played_adapter.specs.FirstAdapters.{first_adapter}
use Rattle.played_adapter.specs.Playing.{new_without_wire}
use Rattle.played_adapter.specs.declared.player.PlayedAdapter.{PlayedAdapter}
use Rattle.adapter_server.specs.declared.options.ServeOptions.{ServeOptions}
use Rattle.adapter_server.specs.declared.session.Session.{Session}

-- the new adapter of the options
abbrev pub adapter_of : ServeOptions → AdapterState
adapter_of options = first_adapter options.image options.link options.receive_kilobytes options.missed

-- the new adapter with memory of zeros at this address; no frame is offered, and no step is played before or after an access
abbrev pub new_device : ServeOptions → (address : Option Ptr) → PlayedAdapter
new_device options address = new_without_wire (replicate options.memory 0) (adapter_of options) options.seed address

-- the agenda of a player, if there is a player
abbrev pub agenda_of_player : Option Player → Option AgendaState
agenda_of_player player = option_map (λ (player : Player). player.agenda) player

-- the recorder of a player, if there is a player
abbrev pub recorder_of : Option Player → Option RecorderState
recorder_of player = option_map (λ (player : Player). player.recorder) player

-- the state before the first request: the new adapter, this player, log and events off, and a clock at 0
abbrev pub new_session : ServeOptions → Option Player → (address : Option Ptr) → Session
new_session options player address = record {
  device = new_device options address;
  function = new_function options.registers;
  clock = 0;
  kept = record { log = false; events = false; put = []; faults = []; recorder = recorder_of player };
  agenda = agenda_of_player player;
  number = None;
  targets = false;
}
