-- The value of a register whose row has kept bits, by the list of all events at an adapter since power-on.
use Rattle.std.specs.Prelude.{◌≡◌, ◌==◌, ◌&&◌, ◌||◌, ℕ, Bool, true, false, List, [], ◌∷◌, ◌++◌, Some, bit_and}
use Rattle.std.specs.List.{list_any}
use Rattle.mdic_phy.specs.declared.phy.Link.{Link}
use Rattle.rx_engine.specs.declared.arrival.Fate.{Fate}
use Rattle.adapter_model.specs.declared.register.Register.{Register}
use Rattle.adapter_model.specs.declared.register.Register.TheVariants.{Ctrl, Receive, Transmit}
use Rattle.adapter_model.specs.declared.register.RingRegister.TheVariants.{Head}
use Rattle.adapter_model.specs.declared.step.StepKind.{StepKind}
use Rattle.adapter_model.specs.declared.step.StepKind.TheVariants.{TxTake, RxData}
use Rattle.adapter_model.specs.Outcomes.{FrameOutcome}
use Rattle.adapter_model.specs.declared.outcome.Outcome.TheVariants.{Took, Part, Moved}
use Rattle.adapter_model.specs.Receiving.{after_arrive}
use Rattle.adapter_model.specs.Registers.{answer_at, after_read, after_write, is_reset, new_adapter}
use Rattle.adapter_model.specs.State.{AdapterState}
use Rattle.adapter_model.specs.Steps.{after_step}
use Rattle.adapter_model.specs.Table.{IsInTable, row_of}

-- An event at an adapter: a read or a write at an offset, a step, or the arrival of a frame from the wire. A step contains its outcome and
-- the memory before the step. An arrival contains the frame and its fate.
pub data AdapterEvent : Type 0 where
  Read : ℕ → AdapterEvent
  Write : ℕ → ℕ → AdapterEvent
  Step : StepKind → FrameOutcome → List ℕ → AdapterEvent
  Arrive : Fate → List ℕ → AdapterEvent

-- The adapter after an event.
abbrev pub adapter_after : AdapterEvent → AdapterState → AdapterState
adapter_after (Read offset) state = after_read offset state
adapter_after (Write offset value) state = after_write offset value state
adapter_after (Step kind answer memory) state = after_step kind answer memory state
adapter_after (Arrive fate frame) state = after_arrive fate frame state

-- The adapter after a list of events, the oldest first.
abbrev pub adapter_after_all : List AdapterEvent → AdapterState → AdapterState
adapter_after_all [] state = state
adapter_after_all (event ∷ later) state = adapter_after_all later (adapter_after event state)

-- Whether the event is a write of CTRL with RST.
abbrev pub is_reset_event : AdapterEvent → Bool
is_reset_event (Read offset) = false
is_reset_event (Write offset value) = offset == (row_of Ctrl).offset && is_reset Ctrl value
is_reset_event (Step kind answer memory) = false
is_reset_event (Arrive fate frame) = false

-- Whether a step of this kind with this outcome advances the head register at this offset.
abbrev pub moves_head : ℕ → StepKind → FrameOutcome → Bool
moves_head place TxTake Took = place == (row_of (Transmit Head)).offset
moves_head place RxData Part = place == (row_of (Receive Head)).offset
moves_head place RxData Moved = place == (row_of (Receive Head)).offset
moves_head place kind answer = false

-- Whether the event sets the register at this offset: a write at this offset, a reset, or a step that advances the head at this offset.
abbrev pub sets_register : ℕ → AdapterEvent → Bool
sets_register place (Read offset) = false
sets_register place (Write offset value) = offset == place || is_reset_event (Write offset value)
sets_register place (Step kind answer memory) = moves_head place kind answer
sets_register place (Arrive fate frame) = false

-- No event of the list sets the register at this offset.
abbrev pub NoneSets : ℕ → List AdapterEvent → Type 0
NoneSets place events = list_any (sets_register place) events ≡ false

-- What a read at an offset returns after all events since power-on, the oldest first.
abbrev pub reads : List ℕ → Link → List AdapterEvent → ℕ → ℕ
reads words link events offset = answer_at offset (adapter_after_all events (new_adapter words link))

-- The value of a register with these kept bits until the next event that sets the register. After power-on or a reset, it reads its reset
-- value. After a write that is no reset, it reads the kept bits of the written value.
pub record ReadsByHistory (register : Register) (kept : ℕ) (words : List ℕ) (link : Link) : Type 0 where
  -- If no event since power-on has set the register, it reads its reset value.
  pub never_written : (all : List AdapterEvent) → NoneSets (row_of register).offset all
      → reads words link all (row_of register).offset ≡ (row_of register).reset words
  -- If no event has set the register since a write that is no reset, the register reads the kept bits of the written value.
  pub written : (before : List AdapterEvent) (value : ℕ) (after : List AdapterEvent)
      → is_reset_event (Write (row_of register).offset value) ≡ false → NoneSets (row_of register).offset after
      → reads words link (before ++ Write (row_of register).offset value ∷ after) (row_of register).offset ≡ bit_and value kept
  -- If no event has set the register since a reset, it reads its reset value.
  pub reset : (before : List AdapterEvent) (event : AdapterEvent) (after : List AdapterEvent)
      → is_reset_event event ≡ true → NoneSets (row_of register).offset after
      → reads words link (before ++ event ∷ after) (row_of register).offset ≡ (row_of register).reset words

-- `ReadsByHistory` holds for each register whose row has kept bits, each EEPROM and each setting of the link.
abbrev pub PlainByHistory : Type 0
PlainByHistory =
    (register : Register) (kept : ℕ) (words : List ℕ) (link : Link)
    → IsInTable register → (row_of register).kept ≡ Some kept → ReadsByHistory register kept words link
