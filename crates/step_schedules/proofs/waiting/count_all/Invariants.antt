use Rattle.std.proofs.Common.{◌≡◌, ◌++◌, drop, map, take}
use Rattle.step_schedules.specs.Events.{event_value}
use Rattle.step_schedules.specs.Waiting.{event_counted, waiting_value}
use Rattle.step_schedules.proofs.waiting.count_all.Given as goal

-- the event is counted for the deviations before the index
abbrev pub invariant-loop-one : goal.invariant-loop-one
invariant-loop-one l =
    map waiting_value (take l.one-index l.waiting)
    ++ map (event_counted (event_value l.event)) (map waiting_value (drop l.one-index l.waiting))
    ≡ map (event_counted (event_value l.event)) (map waiting_value l.initial.waiting)
