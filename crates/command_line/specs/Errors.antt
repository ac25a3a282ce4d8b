-- The errors of the command line, by the errors of clap (our choice).
use Rattle.std.specs.Prelude.{◌≡◌, ◌≢◌, List, ⊤}
use Rattle.clap.specs.Kinds.{IsAmong, Kinds}
use Rattle.clap.specs.Words.{Text, kind_of}
use Rattle.command_line.specs.Shape.{refusals}
use Rattle.clap.specs.declared.error.Error.{Error}
use Rattle.clap.specs.declared.error.kind.ErrorKind.TheVariants.{OutOfMemory}
use Rattle.command_line.specs.declared.error.InvalidValue.{InvalidValue}
use Rattle.command_line.specs.declared.error.LineError.{LineError}
use Rattle.command_line.specs.declared.error.LineError.TheVariants.{Words, Value, NotUnicode, Memory}

-- `Memory` is made from clap's error that memory was refused, and `Words` from any other error of clap
abbrev pub IsFromClap : Error → LineError → Type 0
IsFromClap error Memory = kind_of error ≡ OutOfMemory
IsFromClap error (Words same) = (same ≡ error) × (kind_of error ≢ OutOfMemory)
IsFromClap error (Value value) = ⊥
IsFromClap error NotUnicode = ⊥

-- if clap refused the words, clap's error has this property
abbrev pub IfWords : LineError → (Error → Type 0) → Type 0
IfWords (Words error) P = P error
IfWords _ P = ⊤

-- if a value was refused, the value has this property
abbrev pub IfValue : LineError → (InvalidValue → Type 0) → Type 0
IfValue (Value value) P = P value
IfValue _ P = ⊤

-- the kind of clap's error is one of those that clap may return for the words
abbrev pub IsRefusalOf : List Text → Error → Type 0
IsRefusalOf words error = IsAmong (kind_of error) (refusals words)

-- memory was refused, or the kind of clap's error is one of these
abbrev pub IsRefusedBy : Kinds → LineError → Type 0
IsRefusedBy kinds (Words error) = IsAmong (kind_of error) kinds
IsRefusedBy kinds (Value value) = ⊥
IsRefusedBy kinds NotUnicode = ⊥
IsRefusedBy kinds Memory = ⊤
