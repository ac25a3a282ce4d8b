use Rattle.std.proofs.Common.{◌≡◌, ◌++◌, drop, false, map}
use Rattle.std.specs.Prelude.{string_bytes}
use Rattle.program_files.specs.Words.{options_in}
use Rattle.program_files.proofs.schedule_words.options_in.Given as goal

-- the options so far and those in the words that are left are the result
abbrev pub invariant-loop-word : goal.invariant-loop-word
invariant-loop-word l =
    map string_bytes l.options.items ++ options_in l.is_value (map string_bytes (drop l.word-index l.words))
    ≡ options_in false (map string_bytes l.words)
