use Rattle.std.proofs.Common.{map, take}
use Rattle.std.specs.Fmt.{HasWritten, IsPlainFormatter}
use Rattle.std.specs.List.{flat_map}
use Rattle.std.specs.Prelude.{string_bytes}
use Rattle.step_schedules.specs.Texts.{option_text}
use Rattle.step_schedules.proofs.printing.write_options.Given as goal

-- the options so far are written
abbrev pub invariant-loop-option : goal.invariant-loop-option
invariant-loop-option g l =
    IsPlainFormatter l.initial.f
    → HasWritten g.W.Write.write_str_gives l.initial.f
    (flat_map option_text (map string_bytes (take l.option-index l.options))) l.f
