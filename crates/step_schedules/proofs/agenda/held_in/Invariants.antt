use Rattle.std.proofs.Common.{◌≡◌, map, take}
use Rattle.step_schedules.specs.Agendas.{held_by}
use Rattle.step_schedules.specs.Events.{event_value}
use Rattle.step_schedules.specs.Waiting.{due_before, waiting_value}
use Rattle.step_schedules.proofs.agenda.held_in.Given as goal

-- the steps that the actions so far leave out
abbrev pub invariant-loop-one : goal.invariant-loop-one
invariant-loop-one l =
    l.held ≡ held_by (due_before (event_value l.event) (map waiting_value (take l.one-index l.waiting)))
