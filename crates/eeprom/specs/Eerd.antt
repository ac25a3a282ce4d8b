-- EERD, the EEPROM read register (manual, 13.4.4), one step at a time.
use Rattle.std.specs.Prelude.{ℕ, ◌+◌, ◌*◌, ◌/◌, ◌%◌, ◌==◌, Bool, true, false, List, if◌then◌else◌}
use Rattle.eeprom.specs.declared.eerd.ReadState.{ReadState}
use Rattle.eeprom.specs.declared.eerd.ReadState.TheVariants.{Idle, Pending, Done}
use Rattle.eeprom.specs.Image.{word_at}

-- START, bit 0 of the written value (13.4.4).
abbrev pub has_start : ℕ → Bool
has_start value = value % 2 == 1

-- ADDR, bits 15:8 of the written value (13.4.4).
abbrev pub addr : ℕ → ℕ
addr value = value / 256 % 256

-- The register after a write. A write with START begins a read, and drops a pending read. A write without START is ignored. (That a pending
-- read is dropped, and that a write without START is ignored, is our choice.)
abbrev pub eerd_after_write : ℕ → ReadState → ReadState
eerd_after_write value state = if has_start value then Pending (addr value) else state

-- The register after a tick. A tick ends a pending read with the word of the image (how long a read takes is our choice). Without a pending
-- read, a tick changes nothing.
abbrev pub after_tick : List ℕ → ReadState → ReadState
after_tick words Idle = Idle
after_tick words (Pending address) = Done address (word_at words address)
after_tick words (Done address word) = Done address word

-- Whether a read is pending: it hasn't ended yet.
abbrev pub is_pending : ReadState → Bool
is_pending Idle = false
is_pending (Pending _) = true
is_pending (Done _ _) = false

-- The value of the register while a read is pending: only ADDR, in bits 15:8.
abbrev pub shown_before : ℕ → ℕ
shown_before address = address * 256

-- The value of the register after a read has ended: DATA in bits 31:16, ADDR in bits 15:8, and DONE, bit 4 (13.4.4).
abbrev pub shown_after : ℕ → ℕ → ℕ
shown_after address word = word * 65536 + address * 256 + 16

-- The value that a read of the register returns. START reads 0, and a register for which no read was begun reads 0 (our choice).
abbrev pub shown : ReadState → ℕ
shown Idle = 0
shown (Pending address) = shown_before address
shown (Done address word) = shown_after address word
