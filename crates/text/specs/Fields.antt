-- Fields of a line that is printed (our choice).
use Rattle.std.specs.Prelude.{◌++◌, ℕ, List, decimal}

-- a label, followed by a number in decimal
abbrev pub labelled : List ℕ → ℕ → List ℕ
labelled label number = label ++ decimal number
