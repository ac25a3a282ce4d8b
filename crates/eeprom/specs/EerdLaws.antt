-- The proof of the law of EERD's history, with its lemmas. Other crates use these lemmas, too.
use Rattle.std.proofs.Common.{◌≡◌, ℕ, true, false, List, [], ◌∷◌, ◌++◌, refl, ap, ◌∙◌}
use Rattle.std.specs.List.{list_any}
use Rattle.std.proofs.lemmas.Bool.{false≢true, true≢false, or_parts}
use Rattle.eeprom.specs.declared.eerd.ReadState.{ReadState}
use Rattle.eeprom.specs.declared.eerd.ReadState.TheVariants.{Idle, Pending, Done}
use Rattle.eeprom.specs.Image.{word_at}
use Rattle.eeprom.specs.Eerd.{has_start, addr, eerd_after_write, shown}
use Rattle.eeprom.specs.EerdHistory.{Operation, Write, Tick, after_operation, after_all}
use Rattle.eeprom.specs.EerdHistory.{is_start, NoStart, NoTick, HasTick, AnswersByHistory}

-- The register after two lists of operations, one after the other.
pub after_all-append : (words : List ℕ) (before after : List Operation) (state : ReadState)
    → after_all words (before ++ after) state ≡ after_all words after (after_all words before state)
after_all-append words [] after state = refl
after_all-append words (operation ∷ before) after state = after_all-append words before after (after_operation words operation state)

-- A write without START doesn't change the register.
pub after_write-no_start : (value : ℕ) (state : ReadState) → has_start value ≡ false → eerd_after_write value state ≡ state
after_write-no_start value state none = rw none refl

-- A write with START begins a read.
pub after_write-start : (value : ℕ) (state : ReadState) → has_start value ≡ true → eerd_after_write value state ≡ Pending (addr value)
after_write-start value state starts = rw starts refl

-- Without a write with START, a register for which no read was begun remains in this state.
pub stays_idle : (words : List ℕ) (all : List Operation) → NoStart all → after_all words all Idle ≡ Idle
stays_idle words [] none = refl
stays_idle words (Write value ∷ all) none =
    let parts = or_parts (has_start value) (list_any is_start all) none in
    ap (after_all words all) (after_write-no_start value Idle parts.0) ∙ stays_idle words all parts.1
stays_idle words (Tick ∷ all) none = stays_idle words all none

-- Without a write with START, a register whose read has ended doesn't change.
pub stays_done : (words : List ℕ) (all : List Operation) (address word : ℕ) → NoStart all
    → after_all words all (Done address word) ≡ Done address word
stays_done words [] address word none = refl
stays_done words (Write value ∷ all) address word none =
    let parts = or_parts (has_start value) (list_any is_start all) none in
    ap (after_all words all) (after_write-no_start value (Done address word) parts.0) ∙ stays_done words all address word parts.1
stays_done words (Tick ∷ all) address word none = stays_done words all address word none

-- If no tick and no write with START happens, a pending read remains pending.
pub stays_pending : (words : List ℕ) (all : List Operation) (address : ℕ) → NoStart all → NoTick all
    → after_all words all (Pending address) ≡ Pending address
stays_pending words [] address none still = refl
stays_pending words (Write value ∷ all) address none still =
    let parts = or_parts (has_start value) (list_any is_start all) none in
    ap (after_all words all) (after_write-no_start value (Pending address) parts.0) ∙ stays_pending words all address parts.1 still
stays_pending words (Tick ∷ all) address none still = absurd (true≢false still)

-- If at least one tick but no write with START happens, a pending read ends with the word at its address.
pub ends_pending : (words : List ℕ) (all : List Operation) (address : ℕ) → NoStart all → HasTick all
    → after_all words all (Pending address) ≡ Done address (word_at words address)
ends_pending words [] address none ticks = absurd (false≢true ticks)
ends_pending words (Write value ∷ all) address none ticks =
    let parts = or_parts (has_start value) (list_any is_start all) none in
    ap (after_all words all) (after_write-no_start value (Pending address) parts.0) ∙ ends_pending words all address parts.1 ticks
ends_pending words (Tick ∷ all) address none ticks = stays_done words all address (word_at words address) none

-- The register after a write with START and the operations that follow.
pub after_all-start : (words : List ℕ) (before : List Operation) (value : ℕ) (after : List Operation) → has_start value ≡ true
    → after_all words (before ++ Write value ∷ after) Idle ≡ after_all words after (Pending (addr value))
after_all-start words before value after starts =
    after_all-append words before (Write value ∷ after) Idle
    ∙ ap (after_all words after) (after_write-start value (after_all words before Idle) starts)

pub by_history : AnswersByHistory
by_history = record {
  never_asked = λ words all none. ap shown (stays_idle words all none);
  no_tick_yet = λ words before value after starts none still. ap shown (after_all-start words before value after starts
      ∙ stays_pending words after (addr value) none still);
  ticked = λ words before value after starts none ticks. ap shown (after_all-start words before value after starts
      ∙ ends_pending words after (addr value) none ticks);
}
