-- The state of an adapter that is served, and the moves of a player before accesses and requests (our choice).
use denote.RawPtr.{Ptr}
use Rattle.std.specs.Prelude.{◌≡◌, ◌==◌, ◌+◌, ◌-◌, ◌%◌, ◌&&◌, [], ℕ, Bool, List, Option, None, Some, Result, Err, Ok, false, true}
use Rattle.std.specs.Prelude.{codes, if◌then◌else◌, length, nat_le, nat_lt, unwrap_or}
use Rattle.std.specs.Int.{from_le_bytes, w32}
use Rattle.std.specs.Option.{option_map, option_map_or}
use Rattle.access_names.specs.Names.{target_text}
use Rattle.access_names.specs.Targets.{memory_target_in}
use Rattle.access_names.specs.declared.target.Target.{Target}
use Rattle.access_names.specs.declared.target.Target.TheVariants as targets
use Rattle.adapter.specs.State.{AdapterState}
use Rattle.adapter.specs.bus_types.event.Access.{Access}
use Rattle.adapter.specs.bus_types.event.Access.TheVariants.{Stores, Writes}
use Rattle.registers.specs.ConfigSpace.{registers_of}
use Rattle.played_adapter.specs.AccessTargets.{before_of, target_of}
use Rattle.played_adapter.specs.Moves.{access_moves, due_in_agenda, met, request_moves}
use Rattle.played_adapter.specs.Playing.{has_bytes, reported}
use Rattle.played_adapter.specs.declared.choices.Move.{Move}
use Rattle.played_adapter.specs.declared.player.PlayedAdapter.{PlayedAdapter}
use Rattle.server_output.specs.Texts.{Text}
use Rattle.server_requests.specs.declared.refusal.Refusal.{Refusal}
use Rattle.server_requests.specs.declared.refusal.Refusal.TheVariants as refusals
use Rattle.server_requests.specs.declared.request.Setting.{Setting}
use Rattle.server_requests.specs.declared.request.Setting.TheVariants as settings
use Rattle.step_schedules.specs.Agendas.{AgendaState, coming}
use Rattle.step_schedules.specs.Players.{RecorderState, begun, chosen}
use Rattle.step_schedules.specs.declared.deviation.Before.{Before}
use Rattle.step_schedules.specs.declared.deviation.Before.TheVariants.{Choice, Read, Request, Write}
use Rattle.adapter_server.specs.declared.session.AccessPlace.{AccessPlace}
use Rattle.adapter_server.specs.declared.session.AccessPlace.TheVariants.{Memory, Register}
use Rattle.adapter_server.specs.declared.session.Session.{Session}

-- a copy of a session, whose memory has this address; the level of the copy's interrupt line counts as reported
abbrev pub copied : (address : Option Ptr) → Session → Session
copied address session = record session { device = record (reported session.device) { address = address } }

-- A session is a copy of another session.
pub record IsCopied (a copy : Session) : Type 0 where
  -- the address of the copy's memory
  pub address : Option Ptr
  -- the session `copy` is a copy with this address
  pub same : copy ≡ copied address a

-- whether a schedule is played
abbrev pub plays_schedule : Session → Bool
plays_schedule session = option_map_or (λ (agenda : AgendaState). agenda.has_schedule) session.agenda false

-- the session after a setting; while a schedule is played, `interleave` turns random steps off
abbrev pub with_setting : Setting → Session → Session
with_setting (settings.Interleave count) session =
    record session { device = record session.device { most_steps = if plays_schedule session then 0 else count } }
with_setting (settings.Pace count) session = record session { device = record session.device { pace = count } }
with_setting (settings.Log on targets) session = record session { kept = record session.kept { log = on }; targets = targets }
with_setting (settings.Events on) session = record session { kept = record session.kept { events = on } }
with_setting (settings.Wire free) session = record session { device = record session.device { wire_free = free } }

-- The target of an access.

-- the size of all registers together, in bytes (13.4 "Main Register Descriptions")
abbrev pub register_bytes : ℕ
register_bytes = 0x20000

-- whether an access of `count` bytes at an address has four bytes at an aligned address among the registers
abbrev pub is_register : (registers address count : ℕ) → Bool
is_register registers address count =
    (count == 4) && nat_le registers address && nat_lt (address - registers) register_bytes && ((address - registers) % 4 == 0)

-- whether some of the `count` bytes from an address on are bytes of registers
abbrev pub overlaps_registers : (registers address count : ℕ) → Bool
overlaps_registers registers address count =
    nat_lt 0 count && nat_lt address (registers + register_bytes) && nat_lt registers (address + count)

-- The target of an access of `count` bytes at an address, or why the access is refused. `in_memory` is whether memory contains all of these
-- bytes. Without an address of the first register, no address reaches registers.
abbrev pub place_with : Option ℕ → (in_memory : Bool) → (address count : ℕ) → Result AccessPlace Refusal
place_with (Some registers) in_memory address count =
    if is_register registers address count then Ok (Register (address - registers))
    else if in_memory then Ok Memory
    else if overlaps_registers registers address count then Err refusals.Register
    else Err refusals.Address
place_with None in_memory address count = if in_memory then Ok Memory else Err refusals.Address

-- the target of an access of `count` bytes at an address, or why the access is refused
abbrev pub place_in : Session → (address count : ℕ) → Result AccessPlace Refusal
place_in session address count = place_with (registers_of session.function) (has_bytes session.device address count) address count

-- the access that writes bytes at this place
abbrev pub writing_access : AccessPlace → (address : ℕ) → List ℕ → Access
writing_access (Register offset) address bytes = Writes offset (from_le_bytes w32 bytes)
writing_access Memory address bytes = Stores address bytes

-- The bytes fit the place: there are four bytes for a register, or memory contains all of the bytes.
abbrev pub FitsPlace : AccessPlace → (address : ℕ) → List ℕ → PlayedAdapter → Type 0
FitsPlace (Register offset) address bytes device = length bytes ≡ 4
FitsPlace Memory address bytes device = has_bytes device address (length bytes) ≡ true

-- The moves of a player.

-- the agenda, if there is one, after it has counted an access of a target with this name, or a request with this first word
abbrev pub met_agenda : Before → (name : Text) → Option AgendaState → Option AgendaState
met_agenda before name agenda = option_map (met before name) agenda

-- The recorder, if there is one, after it began the next access or request, which has this kind and name. Without an agenda, the recorder
-- doesn't change.
abbrev pub begun_recorder : Before → (name : Text) → Option AgendaState → Option RecorderState → Option RecorderState
begun_recorder before name agenda recorder =
    option_map_or (λ (agenda : AgendaState). option_map (begun (coming before name agenda)) recorder) agenda recorder

-- the number that waits for a request for a number, after an access or a request of this kind came: a request for a number takes it
abbrev pub number_after : Before → Option ℕ → Option ℕ
number_after Read number = number
number_after Write number = number
number_after Request number = number
number_after Choice number = None

-- The session after its player, if there is one, has met an access of a target with this name, or a request with this first word: the
-- recorder began the access or request, and the agenda counted it. A request for a number takes the number that waits for it.
abbrev pub meeting : Before → (name : Text) → Session → Session
meeting before name session = record session {
  agenda = met_agenda before name session.agenda;
  kept = record session.kept { recorder = begun_recorder before name session.agenda session.kept.recorder };
  number = number_after before session.number;
}

-- The moves of the agenda, if there is one, before an access of a target with this name, or a request with this first word. A request for a
-- number has no moves.
abbrev pub moves_with : Before → (name : Text) → PlayedAdapter → Option AgendaState → List Move
moves_with Read name device agenda = option_map_or (λ (agenda : AgendaState). access_moves Read name agenda device) agenda []
moves_with Write name device agenda = option_map_or (λ (agenda : AgendaState). access_moves Write name agenda device) agenda []
moves_with Request name device agenda = option_map_or (λ (agenda : AgendaState). request_moves Request name agenda) agenda []
moves_with Choice name device agenda = []

-- the moves of the player, if there is one, before an access of a target with this name, or a request with this first word
abbrev pub moves_at : Before → (name : Text) → Session → List Move
moves_at before name session = moves_with before name session.device session.agenda

-- the number that the agenda's first due action chooses at an access of a target with this name, or a request with this first word; or 0
abbrev pub wanted_with : Before → (name : Text) → Option AgendaState → ℕ
wanted_with before name agenda =
    option_map_or (λ (agenda : AgendaState). chosen (due_in_agenda before name agenda)) agenda 0

-- the number that waits for a request for a number, or else the number in the schedule that is due at this request, or else 0
abbrev pub wanted_number : Session → ℕ
wanted_number session = unwrap_or session.number (wanted_with Choice (codes "choose") session.agenda)

-- the name of the target of an access of the session's adapter and memory
abbrev pub target_name : Access → Session → Text
target_name access session = target_text (target_of access session.device.machine.world.adapter)

-- the target of an access at this place; the address matters only for a place in memory
abbrev pub target_in : AccessPlace → (address : ℕ) → AdapterState → Target
target_in (Register offset) address adapter = targets.Register offset
target_in Memory address adapter = memory_target_in adapter address

-- the target of an access at this place of the session's adapter and memory
abbrev pub target_at_place : AccessPlace → (address : ℕ) → Session → Target
target_at_place place address session = target_in place address session.device.machine.world.adapter

-- the moves of the player, if there is one, before this access
abbrev pub moves_before : Access → Session → List Move
moves_before access session = moves_at (before_of access) (target_name access session) session

-- the session after its player, if there is one, has met this access
abbrev pub met_before : Access → Session → Session
met_before access session = meeting (before_of access) (target_name access session) session
