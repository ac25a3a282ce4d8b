-- The effect of reads and writes on a device. `Consumes` and `Appends` state the bytes that move, if the device knows its bytes.
use Rattle.std.specs.Prelude.{◌≡◌, ◌+◌, ◌++◌, ℕ, List, Option, Result, MatchResult, option_map, take}
use Rattle.std.specs.Io.KnownBytes.{Appends, Consumes}

-- An error adds one to the number of failures, and any other result doesn't change it. (our choice)
abbrev pub CountsFailures : {T E : Type 0} → Result T E → ℕ → ℕ → Type 0
CountsFailures result old new = MatchResult result (λ _. new ≡ old) (λ _. new ≡ old + 1)

-- A beginning of `bytes` was appended: perhaps no byte, or all bytes. (our choice)
abbrev pub AppendsFront : Option (List ℕ) → Option (List ℕ) → List ℕ → Type 0
AppendsFront before after bytes = (n : ℕ) × Appends before after (take n bytes)

-- `new` is `old` and then the bytes that were read from a source. (our choice)
abbrev pub Receives : List ℕ → List ℕ → Option (List ℕ) → Option (List ℕ) → Type 0
Receives old new before after = (got : List ℕ) × (new ≡ old ++ got) × Consumes before after got

-- The bytes that a source has left are the last of the bytes that it had left before: no byte was lost or changed. (our choice)
pub record Uses (before after : Option (List ℕ)) : Type 0 where
  pub used : List ℕ
  pub consumes : Consumes before after used

-- the first `limit` bytes that a reader has left, or all bytes if there are fewer (our choice)
abbrev pub first_of : ℕ → Option (List ℕ) → Option (List ℕ)
first_of limit bytes = option_map (take limit) bytes

-- Bytes, perhaps none, were appended to those that a sink has taken. (our choice)
abbrev pub Grows : Option (List ℕ) → Option (List ℕ) → Type 0
Grows before after = (out : List ℕ) × Appends before after out
