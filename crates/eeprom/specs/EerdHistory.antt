-- The value of EERD, from the list of all writes and ticks since the register was new.
use Rattle.std.specs.Prelude.{◌≡◌, ℕ, Bool, true, false, List, [], ◌∷◌, ◌++◌, IsTrue}
use Rattle.std.specs.List.{list_any}
use Rattle.eeprom.specs.declared.eerd.ReadState.{ReadState}
use Rattle.eeprom.specs.declared.eerd.ReadState.TheVariants.{Idle}
use Rattle.eeprom.specs.Image.{word_at}
use Rattle.eeprom.specs.Eerd.{has_start, addr, eerd_after_write, after_tick, shown, shown_before, shown_after}

-- An operation on the register: a write of a value, or a tick of the EEPROM. A read changes nothing.
pub data Operation : Type 0 where
  Write : ℕ → Operation
  Tick : Operation

-- The register after one operation, if the EEPROM contains these words.
abbrev pub after_operation : List ℕ → Operation → ReadState → ReadState
after_operation words (Write value) = eerd_after_write value
after_operation words Tick = after_tick words

-- The register after a list of operations, the oldest first.
abbrev pub after_all : List ℕ → List Operation → ReadState → ReadState
after_all words [] state = state
after_all words (operation ∷ later) state = after_all words later (after_operation words operation state)

-- Whether the operation is a write with START.
abbrev pub is_start : Operation → Bool
is_start (Write value) = has_start value
is_start Tick = false

-- Whether the operation is a tick.
abbrev pub is_eerd_tick : Operation → Bool
is_eerd_tick (Write value) = false
is_eerd_tick Tick = true

-- No operation of the list is a write with START.
abbrev pub NoStart : List Operation → Type 0
NoStart operations = list_any is_start operations ≡ false

-- No operation of the list is a tick.
abbrev pub NoTick : List Operation → Type 0
NoTick operations = list_any is_eerd_tick operations ≡ false

-- At least one operation of the list is a tick.
abbrev pub HasTick : List Operation → Type 0
HasTick operations = IsTrue (list_any is_eerd_tick operations)

-- The value of the register after all operations since it was new, the oldest first.
abbrev pub reads_after : List ℕ → List Operation → ℕ
reads_after words operations = shown (after_all words operations Idle)

-- The value of EERD depends only on the image, on the last write with START, and on whether a tick followed this write (manual, 13.4.4;
-- that a later START replaces a pending one, and that a write without START changes nothing, is our choice).
pub record AnswersByHistory : Type 0 where
  -- Without a write with START, the register reads 0.
  pub never_asked : (words : List ℕ) (all : List Operation) → NoStart all → reads_after words all ≡ 0
  -- If no tick followed the last write with START, the register reads only the ADDR of this write.
  pub no_tick_yet : (words : List ℕ) (before : List Operation) (value : ℕ) (after : List Operation) → IsTrue (has_start value)
      → NoStart after → NoTick after
      → reads_after words (before ++ Write value ∷ after) ≡ shown_before (addr value)
  -- If a tick followed the last write with START, the register reads the word at the ADDR of this write, the ADDR, and DONE.
  pub ticked : (words : List ℕ) (before : List Operation) (value : ℕ) (after : List Operation) → IsTrue (has_start value) → NoStart after
      → HasTick after
      → reads_after words (before ++ Write value ∷ after) ≡ shown_after (addr value) (word_at words (addr value))
