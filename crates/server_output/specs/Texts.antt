-- The lines that a server writes, except refusals (QEMU, docs/devel/testing/qtest: OK and IRQ; frame, fault, arrived and # are our choice).
use Rattle.std.specs.Prelude.{◌++◌, ℕ, List, [], ◌∷◌, Bool, true, false, Option, Some, None, codes, decimal, flat_map, if◌then◌else◌, map}
use Rattle.std.specs.Borrow.{Bor}
use Rattle.std.specs.Int.{to_be_bytes, w64}
use Rattle.std.specs.List.{concat}
use Rattle.base64.specs.Engines.{standard}
use Rattle.base64.specs.GeneralPurpose.{encode_of}
use Rattle.hex.specs.Hex.{encode_lower}
use Rattle.adapter.specs.model_types.step.StepKind.{StepKind}
use Rattle.adapter.specs.model_types.step.StepKind.TheVariants.{TxTake, TxPut, RxData, RxDone, EepromTick, PhyTick}
use Rattle.adapter.specs.model_types.outcome.Outcome.{Outcome}
use Rattle.adapter.specs.model_types.outcome.Outcome.TheVariants.{Took, Put, WireFull, Part, Moved, Done, Delivered, Ticked, Nothing, Fault}
use Rattle.rx_engine.specs.declared.arrival.Fate.{Fate}
use Rattle.rx_engine.specs.declared.arrival.Fate.TheVariants.{Off, Illegal, Filtered, Missed, Stored}
use Rattle.access_names.specs.declared.engine_fault.Engine.{Engine}
use Rattle.access_names.specs.declared.engine_fault.Engine.TheVariants as engines
use Rattle.access_names.specs.declared.engine_fault.EngineFault.{EngineFault}
use Rattle.access_names.specs.declared.engine_fault.Reason.{Reason}
use Rattle.access_names.specs.declared.ring_words.RingWords.{RingWords}
use Rattle.access_names.specs.declared.engine_fault.Reason.TheVariants as reasons
use Rattle.server_output.specs.declared.looking.EnabledSteps.{EnabledSteps}
pub use Rattle.server_requests.specs.Texts.{Text}

-- the parts of a text, joined
abbrev pub joined_parts : List (Bor Text) → Text
joined_parts parts = concat (map (λ (part : Bor Text). part.now) parts)

-- the word for a kind of step
abbrev pub kind_word : StepKind → Text
kind_word TxTake = codes "txtake"
kind_word TxPut = codes "txput"
kind_word RxData = codes "rxdata"
kind_word RxDone = codes "rxdone"
kind_word EepromTick = codes "eeprom"
kind_word PhyTick = codes "phy"

-- the word for an outcome
abbrev pub outcome_word : Outcome (Unit {0}) → Text
outcome_word Took = codes "took"
outcome_word (Put frame) = codes "put"
outcome_word WireFull = codes "wirefull"
outcome_word Part = codes "part"
outcome_word Moved = codes "moved"
outcome_word Done = codes "done"
outcome_word (Delivered frame fate) = codes "delivered"
outcome_word Ticked = codes "ticked"
outcome_word Nothing = codes "nothing"
outcome_word Fault = codes "fault"

-- the word for a fate
abbrev pub fate_word : Fate → Text
fate_word Off = codes "off"
fate_word Illegal = codes "illegal"
fate_word Filtered = codes "filtered"
fate_word Missed = codes "missed"
fate_word Stored = codes "stored"

-- The log: lines that begin with #.

-- the line of the log with this text, or no text if the log is off
abbrev pub said_log : Bool → Text → Text
said_log true said = codes "# " ++ said ++ codes "\n"
said_log false said = []

-- what the line of the log contains about a step, after `# `
abbrev pub step_said : StepKind → Outcome (Unit {0}) → Text
step_said kind outcome = concat (codes "step " ∷ kind_word kind ∷ codes " -> " ∷ outcome_word outcome ∷ [])

-- what the line of the log contains about the arrival of an offered frame, after `# `
abbrev pub arrive_said : List ℕ → Text
arrive_said frame = concat (codes "arrive " ∷ encode_lower frame ∷ [])

-- Frames and the interrupt line.

-- the line of a frame that was put onto the wire, from the frame's digits
abbrev pub digits_line : Text → Text
digits_line digits = codes "frame " ++ digits ++ codes "\n"

-- the line of a frame that was put onto the wire
abbrev pub frame_line : List ℕ → Text
frame_line frame = digits_line (encode_lower frame)

-- the line of an offered frame that arrived, from the word of the frame's fate and the frame's digits
unfoldable pub digits_arrived : (fate digits : Text) → Text
digits_arrived fate digits = codes "arrived " ++ fate ++ codes " " ++ digits ++ codes "\n"

-- the line of an offered frame that arrived, with its fate
abbrev pub arrived_line : Fate → List ℕ → Text
arrived_line fate frame = digits_arrived (fate_word fate) (encode_lower frame)

-- the line that reports a new level of the interrupt line, or no text if there is no new level
abbrev pub line_told : Option Bool → Text
line_told (Some true) = codes "IRQ raise 0\n"
line_told (Some false) = codes "IRQ lower 0\n"
line_told None = []

-- the line that reports a change of the interrupt line, or no text if the levels are equal
abbrev pub line_moved : (was is : Bool) → Text
line_moved false true = line_told (Some true)
line_moved true false = line_told (Some false)
line_moved true true = line_told None
line_moved false false = line_told None

-- Answers.

-- the line of an answer without a value
abbrev pub ok_line : Text
ok_line = codes "OK\n"

-- the line of an answer with bytes, in hexadecimal digits
unfoldable pub bytes_line : List ℕ → Text
bytes_line bytes = codes "OK 0x" ++ encode_lower bytes ++ codes "\n"

-- the line of an answer with a number, in 16 hexadecimal digits
unfoldable pub number_line : ℕ → Text
number_line number = bytes_line (to_be_bytes w64 number)

-- the line of an answer with this word
unfoldable pub word_line : Text → Text
word_line word = codes "OK " ++ word ++ codes "\n"

-- the line of an answer with bytes, in base64 (RFC 4648, section 4)
abbrev pub base64_line : List ℕ → Text
base64_line bytes = word_line (encode_of standard bytes)

-- Kinds of steps.

-- a space and the word of a kind of step, or no text if the kind isn't enabled
abbrev pub enabled_word : StepKind → Bool → Text
enabled_word kind is_enabled = if is_enabled then codes " " ++ kind_word kind else []

-- the line of an answer with the kinds of steps that are enabled, in the order of a cycle
unfoldable pub enabled_line : EnabledSteps → Text
enabled_line enabled = concat (codes "OK" ∷ enabled_word TxTake enabled.tx_take ∷ enabled_word TxPut enabled.tx_put
    ∷ enabled_word RxData enabled.rx_data ∷ enabled_word RxDone enabled.rx_done ∷ enabled_word EepromTick enabled.eeprom
    ∷ enabled_word PhyTick enabled.phy ∷ codes "\n" ∷ [])

-- Rings.

-- a space, 0x, and a number in 16 hexadecimal digits
abbrev pub number_word : ℕ → Text
number_word number = codes " 0x" ++ encode_lower (to_be_bytes w64 number)

-- the words of a ring, each after a space: its base, its length in bytes, its head and its tail
abbrev pub ring_words : RingWords → Text
ring_words ring =
    concat (number_word ring.base ∷ number_word ring.bytes ∷ number_word ring.head ∷ number_word ring.tail ∷ [])

-- the line of an answer with the receive ring and the transmit ring
abbrev pub rings_line : (receive transmit : RingWords) → Text
rings_line receive transmit = concat (codes "OK" ∷ ring_words receive ∷ ring_words transmit ∷ codes "\n" ∷ [])

-- Faults of engines.

-- the word for an engine
abbrev pub engine_word : Engine → Text
engine_word engines.Transmit = codes "tx"
engine_word engines.Receive = codes "rx"

-- the word for a fault's reason
abbrev pub reason_word : Reason → Text
reason_word reasons.Ring = codes "ring"
reason_word reasons.Descriptor = codes "descriptor"
reason_word reasons.Dext = codes "dext"
reason_word reasons.Eop = codes "eop"
reason_word reasons.Length = codes "length"
reason_word reasons.Buffer = codes "buffer"
reason_word reasons.Bsex = codes "bsex"

-- the words of a fault, each after a space: the engine, the head of the engine's ring in decimal digits, and the reason
abbrev pub fault_words : EngineFault → Text
fault_words fault =
    codes " " ++ engine_word fault.engine ++ codes " " ++ decimal fault.index ++ codes " " ++ reason_word fault.reason

-- the line of a fault
abbrev pub fault_line : EngineFault → Text
fault_line fault = codes "fault" ++ fault_words fault ++ codes "\n"

-- the line of an answer with these faults
abbrev pub faults_line : List EngineFault → Text
faults_line faults = codes "OK" ++ flat_map fault_words faults ++ codes "\n"

-- the line of an answer with a number in decimal digits
abbrev pub decimal_line : ℕ → Text
decimal_line number = word_line (decimal number)

-- the word for a frame: a space, 0x and the frame's digits
abbrev pub frame_word : List ℕ → Text
frame_word frame = codes " 0x" ++ encode_lower frame

-- the line of an answer with these frames
abbrev pub frames_line : List (List ℕ) → Text
frames_line frames = codes "OK" ++ flat_map frame_word frames ++ codes "\n"
