-- The program's exit status for refused words (our choice): 4 if memory was refused, and 2 otherwise.
use Rattle.std.specs.Prelude.{ℕ}
use Rattle.command_line.specs.declared.error.LineError.{LineError}
use Rattle.command_line.specs.declared.error.LineError.TheVariants.{Memory, NotUnicode, Value, Words}

abbrev pub line_status : LineError → ℕ
line_status (Words error) = 2
line_status (Value value) = 2
line_status NotUnicode = 2
line_status Memory = 4
