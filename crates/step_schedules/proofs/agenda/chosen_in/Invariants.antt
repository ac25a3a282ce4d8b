use Rattle.std.proofs.Common.{◌≡◌, [], map, take}
use Rattle.step_schedules.specs.Events.{event_value}
use Rattle.step_schedules.specs.Waiting.{due_before, waiting_value}
use Rattle.step_schedules.proofs.agenda.chosen_in.Given as goal

-- no action so far is due
abbrev pub invariant-loop-one : goal.invariant-loop-one
invariant-loop-one l = due_before (event_value l.event) (map waiting_value (take l.one-index l.waiting)) ≡ []
