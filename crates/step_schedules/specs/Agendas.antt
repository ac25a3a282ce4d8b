-- Agendas: the deviations of a schedule that wait for their events in a run, and the default steps that actions leave out.
use Rattle.std.specs.Prelude.{◌||◌, [], Bool, List, None, Option, Some, false, if◌then◌else◌, map, true}
use Rattle.std.specs.List.{list_any}
use Rattle.step_schedules.specs.Events.{EventValue, next_place}
use Rattle.step_schedules.specs.Schedules.{ScheduleValue}
use Rattle.step_schedules.specs.Waiting.{WaitingValue, event_counted, waits}
use Rattle.step_schedules.specs.Words.{Text}
use Rattle.step_schedules.specs.declared.agenda.Held.{Held}
use Rattle.step_schedules.specs.declared.deviation.Action.{Action}
use Rattle.step_schedules.specs.declared.deviation.Action.TheVariants.{HoldEeprom, HoldPhy}
use Rattle.step_schedules.specs.declared.deviation.Before.{Before}
use Rattle.step_schedules.specs.declared.deviation.Place.{Place}

-- the state of an agenda
pub record AgendaState : Type 0 where
  -- whether the run has a schedule; if not, all default steps are left out
  pub has_schedule : Bool
  -- the place of the access or the request that came last, or 0.0 before the run
  pub last : Place
  -- all deviations of the schedule, also those that have been due
  pub deviations : List WaitingValue

-- the agenda of a schedule, before the run
abbrev pub agenda_of : ScheduleValue → AgendaState
agenda_of schedule =
    record { has_schedule = true; last = record { round = 0; access = 0 }; deviations = map waits schedule.deviations }

-- the agenda of a run without a schedule, before the run: all default steps are left out
abbrev pub idle_agenda : AgendaState
idle_agenda = record { has_schedule = false; last = record { round = 0; access = 0 }; deviations = [] }

-- The access or request of this kind, and with this name, that comes next. The place of this event is the next place of this kind after the
-- last place.
abbrev pub coming : Before → Text → AgendaState → EventValue
coming before name agenda = record { place = next_place before agenda.last; before = before; name = name }

-- The agenda after an access or a request came. The place of this event is the last place. The event is counted for each deviation that
-- matches it.
abbrev pub agenda_after : EventValue → AgendaState → AgendaState
agenda_after event agenda = record agenda { last = event.place; deviations = map (event_counted event) agenda.deviations }

-- whether an action leaves out the default step of the EEPROM
abbrev pub holds_eeprom : Action → Bool
holds_eeprom HoldEeprom = true
holds_eeprom _ = false

-- whether an action leaves out the default step of the PHY
abbrev pub holds_phy : Action → Bool
holds_phy HoldPhy = true
holds_phy _ = false

-- which default steps these actions leave out
abbrev pub held_by : List Action → Held
held_by actions = record { eeprom = list_any holds_eeprom actions; phy = list_any holds_phy actions }

-- which default steps are left out before an event: those that these due actions leave out, or all if the run has no schedule
abbrev pub default_steps_held : (due : List Action) → AgendaState → Held
default_steps_held due agenda = if agenda.has_schedule then held_by due else record { eeprom = true; phy = true }

-- which default steps are left out if also this action is due: those of `held`, and the one that a hold leaves out
abbrev pub held_after : Held → Option Action → Held
held_after held None = held
held_after held (Some action) = record { eeprom = held.eeprom || holds_eeprom action; phy = held.phy || holds_phy action }
