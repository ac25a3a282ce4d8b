-- The record of what was played in a run, and the numbers that actions choose.
use Rattle.std.specs.Prelude.{◌++◌, ◌∷◌, [], ℕ, List, Option}
use Rattle.step_schedules.specs.Events.{EventValue, no_event}
use Rattle.step_schedules.specs.Deviations.{DeviationValue}
use Rattle.step_schedules.specs.Schedules.{ScheduleValue}
use Rattle.step_schedules.specs.Words.{Text}
use Rattle.step_schedules.specs.declared.deviation.Action.{Action}
use Rattle.step_schedules.specs.declared.deviation.Site.TheVariants as site
use Rattle.step_schedules.specs.declared.deviation.Action.TheVariants.{Choose}

-- the state of a recorder
pub record RecorderState : Type 0 where
  -- the access or the request that began last, with its place, or `no_event` before the run
  pub event : EventValue
  -- the actions that were played, the oldest first
  pub played : List DeviationValue

-- a recorder before the run
abbrev pub new_recorder : RecorderState
new_recorder = record { event = no_event; played = [] }

-- the number that the first of these actions chooses; 0 if there is no action, or if the first action chooses no number
abbrev pub chosen : List Action → ℕ
chosen (Choose number ∷ later) = number
chosen actions = 0

-- the recorder after this access or request began
abbrev pub begun : EventValue → RecorderState → RecorderState
begun event recorder = record recorder { event = event }

-- the deviation that plays an action before an access or a request, at the place of this event
abbrev pub deviation_before : EventValue → Action → DeviationValue
deviation_before event action =
    record { site = site.Place event.place; action = action; before = event.before; name = event.name }

-- the recorder after an action was played before the access or the request that began last
abbrev pub after_playing : Action → RecorderState → RecorderState
after_playing action recorder =
    record recorder { played = recorder.played ++ deviation_before recorder.event action ∷ [] }

-- a schedule with these options, and with the actions that were played
abbrev pub recorded : Option (List Text) → RecorderState → ScheduleValue
recorded options recorder = record { options = options; deviations = recorder.played }
