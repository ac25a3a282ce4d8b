-- A server that answers one line in each call (our choice).
use denote.RawPtr.{Ptr}
use Rattle.std.specs.Prelude.{◌≡◌, ◌==◌, ◌+◌, ◌^◌, ◌++◌, [], ℕ, Bool, List, None, Option, Some, false, if◌then◌else◌, length, nat_lt, not, true}
use Rattle.adapter.specs.model_types.step.StepKind.{StepKind}
use Rattle.adapter.specs.model_types.step.StepKind.TheVariants.{EepromTick, PhyTick, RxData, RxDone, TxPut, TxTake}
use Rattle.played_adapter.specs.Playing.{Chosen}
use Rattle.played_adapter.specs.declared.choices.Choice.{Choice}
use Rattle.played_adapter.specs.declared.choices.Choice.TheVariants.{Arrival, Step}
use Rattle.played_adapter.specs.declared.player.PlayedAdapter.{PlayedAdapter}
use Rattle.server_output.specs.Texts.{Text}
use Rattle.server_requests.specs.Lines.{most_line_bytes}
use Rattle.server_requests.specs.declared.line_reader.NextLine.{NextLine}
use Rattle.server_requests.specs.declared.line_reader.NextLine.TheVariants.{Long, Whole}
use Rattle.step_schedules.specs.Agendas.{idle_agenda}
use Rattle.adapter_server.specs.Answers.{CanDo, Played}
use Rattle.adapter_server.specs.Serving.{Turns, new_server}
use Rattle.adapter_server.specs.declared.options.ServeOptions.{ServeOptions}
use Rattle.adapter_server.specs.declared.snapshot.Server.{Server}

-- the state of a line server
pub record LineState : Type 0 where
  -- the server
  pub server : Server
  -- what was written since the last answer
  pub waiting : Text
  -- the text of the last answer, and before it what was written since the answer before
  pub told : Text
  -- whether memory was refused; then the server does nothing more
  pub dead : Bool

-- what reading this line from an input results in
abbrev pub next_of : (line : Text) → NextLine
next_of line = if nat_lt most_line_bytes (length line) then Long else Whole

-- the server without a schedule that counts the places of a schedule
abbrev pub counting : Server → Server
counting server = record server { session = record server.session { agenda = Some idle_agenda } }

-- A line server before the first line: a new server that counts places, and no text.
pub record IsNewLines (options : ServeOptions) (a : LineState) : Type 0 where
  -- the address of its memory
  pub address : Option Ptr
  -- its server is new
  pub server : a.server ≡ counting (new_server options None address)
  -- nothing was written
  pub waiting : a.waiting ≡ []
  pub told : a.told ≡ []
  -- memory wasn't refused
  pub alive : a.dead ≡ false

-- the text of the last answer; none if memory was refused
abbrev pub told_text : LineState → Text
told_text a = if a.dead then [] else a.told

-- A line is answered. Its text comes after what was written since the last answer, and both are told.
pub record AnswersTurn (line : Text) (a b : LineState) : Type 0 where
  -- the text of the answer
  pub text : Text
  -- the answer is that of a server
  pub turns : Turns line a.server b.server text
  -- the texts
  pub told : b.told ≡ a.waiting ++ text
  pub waiting : b.waiting ≡ []

-- A line is answered, unless memory was refused, now or before.
pub record LineAnswered (line : Text) (a b : LineState) : Type 0 where
  -- if memory was refused before, nothing changes
  pub dead : a.dead ≡ true → b ≡ a
  -- if memory wasn't refused, the line is answered
  pub answers : b.dead ≡ false → AnswersTurn line a b

-- Steps and arrivals between lines.

-- The answer is whether a choice would do something now: whether the outcome of its step would be neither `Nothing` nor `WireFull`, or
-- whether a frame is offered for its arrival.
abbrev pub CanChoose : Choice → (answer : Bool) → PlayedAdapter → Type 0
CanChoose (Step kind) answer device = CanDo kind answer device
CanChoose Arrival answer device = answer ≡ not (length device.offered == 0)

-- the value of a bit of a mask if the bit is set, else 0
abbrev pub bit_if : Bool → (value : ℕ) → ℕ
bit_if is_set value = if is_set then value else 0

-- The answer is the value of a bit if a choice would do something now, else 0.
pub record BitOf (choice : Choice) (value answer : ℕ) (device : PlayedAdapter) : Type 0 where
  -- whether the choice would do something
  pub can : Bool
  -- `CanChoose` holds of `can`
  pub can_choose : CanChoose choice can device
  -- the answer is the value of the bit, or 0
  pub answer_is : answer ≡ bit_if can value

-- A mask has a bit for each choice that would do something now.
pub record MaskOf (mask : ℕ) (device : PlayedAdapter) : Type 0 where
  -- whether a step of a kind would do something
  pub can : StepKind → Bool
  -- `CanDo` holds of `can` for each kind
  pub each : (kind : StepKind) → CanDo kind (can kind) device
  -- a bit for each kind, by its number, and bit 31 if a frame is offered
  pub mask_is : mask ≡ bit_if (can TxTake) 1 + bit_if (can TxPut) 2 + bit_if (can RxData) 4 + bit_if (can RxDone) 8
      + bit_if (can EepromTick) 16 + bit_if (can PhyTick) 32 + bit_if (not (length device.offered == 0)) (2 ^ 31)

-- The mask has a bit for each choice that would do something now. It is 0 if memory was refused.
pub record TellsCan (mask : ℕ) (a : LineState) : Type 0 where
  pub dead : a.dead ≡ true → mask ≡ 0
  pub mask_of : a.dead ≡ false → MaskOf mask a.server.session.device

-- A choice is played, and what is written about it waits for the next answer.
pub record Deviates (choice : Choice) (a b : LineState) : Type 0 where
  -- what is written
  pub text : Text
  -- the choice is played, as before a request without a line
  pub plays : Played (Chosen choice) [] a.server.session b.server.session text
  -- the text waits
  pub waiting : b.waiting ≡ a.waiting ++ text
  -- nothing else changes
  pub saved : b.server.saved ≡ a.server.saved
  pub told : b.told ≡ a.told

-- A choice is played, unless memory was refused, now or before. The answer is whether the choice does something.
pub record Deviated (choice : Choice) (answer : Bool) (a b : LineState) : Type 0 where
  -- if memory was refused before, nothing changes
  pub dead : a.dead ≡ true → (answer ≡ false) × (b ≡ a)
  -- if memory is refused now, the answer is `false`
  pub refused : b.dead ≡ true → answer ≡ false
  -- if memory wasn't refused, the choice is played
  pub plays : b.dead ≡ false → CanChoose choice answer a.server.session.device × Deviates choice a b

-- The adapter of the server is lent, unless memory was refused.
pub record LendsDevice (device : Option PlayedAdapter) (a : LineState) : Type 0 where
  pub dead : a.dead ≡ true → device ≡ None
  pub lends : a.dead ≡ false → device ≡ Some a.server.session.device

-- The next request `choose` is answered by this number, unless memory was refused. The answer is whether it wasn't.
pub record SetsNumber (number : ℕ) (answer : Bool) (a b : LineState) : Type 0 where
  pub answer_is : answer ≡ not a.dead
  -- if memory was refused, nothing changes
  pub dead : a.dead ≡ true → b ≡ a
  -- the number waits for the request
  pub sets : a.dead ≡ false
      → b ≡ record a { server = record a.server { session = record a.server.session { number = Some number } } }
