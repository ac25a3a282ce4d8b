-- Deviations that wait for their events in a run, or have been due.
use Rattle.std.specs.Prelude.{◌-◌, ◌==◌, ◌&&◌, ℕ, Bool, List, None, Option, Some, filter, if◌then◌else◌, map, nat_lt}
use Rattle.step_schedules.specs.Events.{EventValue, is_matched_by}
use Rattle.step_schedules.specs.declared.waiting.Waiting.{Waiting}
use Rattle.step_schedules.specs.Deviations.{DeviationValue, deviation_value}
use Rattle.step_schedules.specs.declared.deviation.Action.{Action}
use Rattle.step_schedules.specs.declared.deviation.Site.{Site}
use Rattle.step_schedules.specs.declared.deviation.Site.TheVariants as site

-- a deviation of a schedule in a run: it waits for its access or request, or has been due
pub record WaitingValue : Type 0 where
  -- the deviation
  pub deviation : DeviationValue
  -- The number of matching events that must still come. The deviation is due before the last of them. If the number is 0, it has been due.
  pub left : ℕ

-- a deviation in a run, as plain data
abbrev pub waiting_value : Waiting → WaitingValue
waiting_value waiting = record { deviation = deviation_value waiting.deviation; left = waiting.left }

-- the number of matching events up to the one before which a deviation is due: 1 for a place
abbrev pub left_at : Site → ℕ
left_at (site.Place place) = 1
left_at (site.Number number) = number

-- a deviation as it waits at the start of the run
abbrev pub waits : DeviationValue → WaitingValue
waits deviation = record { deviation = deviation; left = left_at deviation.site }

-- whether a deviation is due before an event
abbrev pub is_due : EventValue → WaitingValue → Bool
is_due event waiting = waiting.left == 1 && is_matched_by event waiting.deviation

-- a deviation after an event came; the event is counted if the deviation matches the event; `0 - 1` is 0
abbrev pub event_counted : EventValue → WaitingValue → WaitingValue
event_counted event waiting =
    record waiting { left = if is_matched_by event waiting.deviation then waiting.left - 1 else waiting.left }

-- the action of a deviation in a run
abbrev pub action_of : WaitingValue → Action
action_of waiting = waiting.deviation.action

-- the action of a deviation that is due before an event, or no action if the deviation isn't due
abbrev pub due_action : EventValue → WaitingValue → Option Action
due_action event waiting = if is_due event waiting then Some (action_of waiting) else None

-- the actions that are due before an event
abbrev pub due_before : EventValue → List WaitingValue → List Action
due_before event waiting = map action_of (filter (is_due event) waiting)

-- whether a deviation hasn't been due yet
abbrev pub is_unmet : WaitingValue → Bool
is_unmet waiting = nat_lt 0 waiting.left

-- the deviation without its number of events
abbrev pub deviation_of : WaitingValue → DeviationValue
deviation_of waiting = waiting.deviation

-- the deviations that haven't been due yet
abbrev pub unmet_in : List WaitingValue → List DeviationValue
unmet_in waiting = map deviation_of (filter is_unmet waiting)
