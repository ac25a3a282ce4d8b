use Rattle.std.proofs.Common.{◌≡◌, map, take}
use Rattle.step_schedules.specs.Waiting.{unmet_in, waiting_value}
use Rattle.step_schedules.specs.Deviations.{deviation_value}
use Rattle.step_schedules.proofs.waiting.unmet_in.Given as goal

-- the copies are those of the deviations before the index that haven't been due
abbrev pub invariant-loop-one : goal.invariant-loop-one
invariant-loop-one l =
    map deviation_value l.unmet.items ≡ unmet_in (map waiting_value (take l.one-index l.waiting))
