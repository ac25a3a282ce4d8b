use Rattle.std.proofs.Common.{◌≡◌, map, take}
use Rattle.std.specs.Prelude.{string_bytes}
use Rattle.program_files.specs.Adapters.{serve_words}
use Rattle.text.specs.Words.{texts}
use Rattle.program_files.proofs.schedule_adapters.serve_words.Given as goal

-- the words of the options so far
abbrev pub invariant-loop-option : goal.invariant-loop-option
invariant-loop-option l = texts l.words.items ≡ serve_words (map string_bytes (take l.option-index l.options))
