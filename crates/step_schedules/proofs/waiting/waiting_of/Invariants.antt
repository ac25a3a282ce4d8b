use Rattle.std.proofs.Common.{◌≡◌, map}
use Rattle.step_schedules.specs.Waiting.{waiting_value, waits}
use Rattle.step_schedules.specs.Deviations.{deviation_value}
use Rattle.step_schedules.proofs.waiting.waiting_of.Given as goal

-- the list consists of the deviations so far, as they wait at the start
abbrev pub invariant-loop-deviation : goal.invariant-loop-deviation
invariant-loop-deviation l = map waiting_value l.waiting.items ≡ map waits (map deviation_value l.yielded)
