use Rattle.std.proofs.Common.{◌≡◌, map, take}
use Rattle.std.specs.Prelude.{string_bytes}
use Rattle.step_schedules.specs.Words.{texts}
use Rattle.step_schedules.proofs.words.strings_of.Given as goal

-- the copies are those of the words so far
abbrev pub invariant-loop-word : goal.invariant-loop-word
invariant-loop-word l = map string_bytes l.copies.items ≡ texts (take l.word-index l.words)
