use Rattle.std.proofs.Common.{◌≡◌, ◌+◌, drop}
use Rattle.step_schedules.specs.Schedules.{after_lines, schedule_so_far}
use Rattle.step_schedules.specs.Words.{texts}
use Rattle.step_schedules.proofs.reader.Reader.read_lines.Given as goal

-- from what was read so far, the remaining lines lead to the result
abbrev pub invariant-loop-line : goal.invariant-loop-line
invariant-loop-line l = record {
  counted : l.number ≡ l.line-index;
  leads : after_lines (texts (drop l.line-index l.lines)) (l.number + 1) (schedule_so_far l.self)
      ≡ after_lines (texts l.lines) 1 (schedule_so_far l.initial.self);
}
