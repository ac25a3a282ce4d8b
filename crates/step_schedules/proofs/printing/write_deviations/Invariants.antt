use Rattle.std.proofs.Common.{map, take}
use Rattle.std.specs.Fmt.{HasWritten, IsPlainFormatter}
use Rattle.step_schedules.specs.Deviations.{deviation_value}
use Rattle.step_schedules.specs.Texts.{deviation_lines}
use Rattle.step_schedules.proofs.printing.write_deviations.Given as goal

-- the lines of the deviations so far are written
abbrev pub invariant-loop-deviation : goal.invariant-loop-deviation
invariant-loop-deviation g l =
    IsPlainFormatter l.initial.f
    → HasWritten g.W.Write.write_str_gives l.initial.f
    (deviation_lines (map deviation_value (take l.deviation-index l.deviations))) l.f
