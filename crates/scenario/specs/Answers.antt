-- Which lines are valid, the faults of invalid lines, and the results of reading lines and texts (our choice).
use Rattle.std.specs.Prelude.{◌≡◌, ◌<◌, ◌≤◌, ◌==◌, ℕ, Bool, true, false, List, [], ◌∷◌, Option, Some, None, Result, Ok, Err, if◌then◌else◌}
use Rattle.std.specs.Prelude.{◌-◌, IsSomeAnd, length, slice_index, take}
use Rattle.std.specs.List.{fold}
use Rattle.std.specs.Str.Lines.{lines}
use Rattle.stations.specs.declared.tick.Tick.{Tick}
use Rattle.std.specs.Str.{IsUtf8}
use Rattle.scenario.specs.HostOptions.{options_asked, uses_in}
use Rattle.scenario.specs.Kinds.{line_kind_named}
use Rattle.scenario.specs.Meanings.{AreKnown, HasCount, HasHostNames, HasOrder, HasValues}
use Rattle.scenario.specs.Meanings.{IsRoomAt, after_line, are_ticks, are_ticks_of, changed_first, items_held, most_items, number_of}
use Rattle.scenario.specs.Meanings.{option_words, ticks_in, with_item}
use Rattle.scenario.specs.SoFar.{Host, SoFar, has_name, nothing_read}
use Rattle.scenario.specs.Spellings.{address_in}
use Rattle.scenario.specs.Stops.{IfFault}
use Rattle.scenario.specs.Words.{Text, word, words_of}
use Rattle.scenario.specs.declared.host_change.Item.{Item}
use Rattle.scenario.specs.declared.host_use.HostOptions.{HostOptions}
use Rattle.scenario.specs.declared.line_kind.LineKind.{LineKind}
use Rattle.scenario.specs.declared.line_kind.LineKind.TheVariants as line
use Rattle.scenario.specs.declared.refusal.Fault.{Fault}
use Rattle.scenario.specs.declared.refusal.Fault.TheVariants as fault
use Rattle.scenario.specs.declared.refusal.Refusal.{Refusal}
use Rattle.scenario.specs.declared.refusal.Refusal.TheVariants as refusal
use Rattle.scenario.specs.declared.refusal.Stop.{Stop}

-- the maximum number of bytes of a line
abbrev pub most_scenario_line_bytes : ℕ
most_scenario_line_bytes = 8192

-- A line of this kind with these words is valid after the lines read so far (`before`).
pub record IsGood (kind : LineKind) (before : SoFar) (words : List Text) : Type 0 where
  pub count : HasCount kind words
  pub values : HasValues kind words
  pub names : HasHostNames kind before.hosts words
  pub order : HasOrder kind before.commands

-- The fault of a line of this kind with these words is the first of Count, Value, Name and Order that applies.
abbrev pub IsFaulty : LineKind → SoFar → List Text → Fault → Type 0
IsFaulty kind before words fault.Count = ¬ HasCount kind words
IsFaulty kind before words fault.Value = HasCount kind words × (¬ HasValues kind words)
IsFaulty kind before words fault.Name = HasCount kind words × HasValues kind words × (¬ HasHostNames kind before.hosts words)
IsFaulty kind before words fault.Order =
    HasCount kind words × HasValues kind words × HasHostNames kind before.hosts words × (¬ HasOrder kind before.commands)
IsFaulty kind before words _ = ⊥

-- The result of reading a line of this kind: Ok for a valid line, or its fault, or that memory was refused. Nothing is
-- stated about `after` if the line wasn't read.
abbrev pub IsAnswerToLine : LineKind → SoFar → List Text → Result (Unit {0}) Stop → SoFar → Type 0
IsAnswerToLine kind before words (Ok u) after = IsGood kind before words × (after ≡ after_line kind before words)
IsAnswerToLine kind before words (Err stop) after = IfFault stop (IsFaulty kind before words)

-- The result of adding an item to a host: Ok if the host has room, and then the item was added; Name if the host has no
-- room, and then the host doesn't change.
abbrev pub IsGrowth : (Host → ℕ) → ℕ → (Host → Host) → Host → Result (Unit {0}) Fault → Host → Type 0
IsGrowth held most change host (Ok u) after = (held host < most) × (after ≡ change host)
IsGrowth held most change host (Err stopped) after = (stopped ≡ fault.Name) × (¬ (held host < most)) × (after ≡ host)

-- the result of adding this item to a host, and the host after the call
abbrev pub Gains : Item → Host → Result (Unit {0}) Fault → Host → Type 0
Gains one = IsGrowth (items_held one) (most_items one) (with_item one)

-- The result of adding an item to the first host of this name: Ok if there is such a host and it has room, and then the
-- item was added. Name if there is no such host, or it has no room; then no host changes.
abbrev pub IsChange : Text → (Host → ℕ) → ℕ → (Host → Host) → List Host → Result (Unit {0}) Fault → List Host → Type 0
IsChange name held most change hosts (Ok u) after =
    IsRoomAt name held most hosts × (after ≡ changed_first (has_name name) change hosts)
IsChange name held most change hosts (Err stopped) after =
    (stopped ≡ fault.Name) × (¬ IsRoomAt name held most hosts) × (after ≡ hosts)

-- A `host` line with these words is valid, and the words spell this address and these options.
pub record IsHostRead (before : SoFar) (words : List Text) (read : List ℕ × HostOptions) : Type 0 where
  pub good : IsGood line.Host before words
  pub address : read.0 ≡ address_in (word 2 words)
  pub options : read.1 ≡ options_asked (uses_in (option_words words))

-- The words spell these ticks, and each tick is `go` or at a known host.
pub record AreTicks (hosts : List Host) (words : List Text) (ticks : List Tick) : Type 0 where
  pub known : are_ticks_of hosts words ≡ true
  pub spelled : ticks ≡ ticks_in hosts words

-- The words `ticks` spell ticks. The host of this name and the hosts of these ticks are known. `call` is the host's
-- number and the ticks.
pub record IsCall (hosts : List Host) (name : Text) (ticks : List Text) (call : ℕ × List Tick) : Type 0 where
  pub spelled : are_ticks ticks ≡ true
  pub known : AreKnown hosts name ticks
  pub host : call.0 ≡ number_of name hosts
  pub inside : call.1 ≡ ticks_in hosts ticks

-- The fault of the host or of the ticks of a call is the first of Value and Name that applies.
abbrev pub IsFaultyCall : List Host → (name : Text) → (ticks : List Text) → Fault → Type 0
IsFaultyCall hosts name ticks fault.Value = ¬ (are_ticks ticks ≡ true)
IsFaultyCall hosts name ticks fault.Name = (are_ticks ticks ≡ true) × (¬ AreKnown hosts name ticks)
IsFaultyCall hosts name ticks _ = ⊥

-- A line has at most 8,192 bytes, and is UTF-8.
pub record IsReadable (line : Text) : Type 0 where
  pub size : length line ≤ most_scenario_line_bytes
  pub text : IsUtf8 line

-- Whether a line with these words is skipped: there is no word, or the first word begins with # (0x23).
abbrev pub is_skipped : List Text → Bool
is_skipped [] = true
is_skipped (first ∷ words) = slice_index first 0 == 0x23

-- The line is readable. After the lines read so far, the line is valid or skipped.
pub record IsGoodLine (before : SoFar) (line : Text) : Type 0 where
  pub readable : IsReadable line
  pub said : is_skipped (words_of line) ≡ false
      → IsSomeAnd (line_kind_named (word 0 (words_of line))) (λ kind. IsGood kind before (words_of line))

-- The fault of a line with these words that isn't skipped is the first of Word, Count, Value, Name and Order that
-- applies.
abbrev pub IsFaultySaying : SoFar → List Text → Fault → Type 0
IsFaultySaying before words fault.Word = line_kind_named (word 0 words) ≡ None
IsFaultySaying before words one = IsSomeAnd (line_kind_named (word 0 words)) (λ kind. IsFaulty kind before words one)

-- The fault of a line is the first of Long, Text, Word, Count, Value, Name and Order that applies.
abbrev pub IsFaultyLine : SoFar → Text → Fault → Type 0
IsFaultyLine before line fault.Long = most_scenario_line_bytes < length line
IsFaultyLine before line fault.Text = (length line ≤ most_scenario_line_bytes) × (¬ IsUtf8 line)
IsFaultyLine before line one = IsReadable line × (is_skipped (words_of line) ≡ false) × IsFaultySaying before (words_of line) one

-- the hosts, commands and traces after a line of this kind; a line without a kind changes nothing
abbrev pub after_kind : Option LineKind → SoFar → List Text → SoFar
after_kind (Some kind) before words = after_line kind before words
after_kind None before words = before

-- the hosts, commands and traces after a line with these words; a skipped line changes nothing
abbrev pub after_words : SoFar → List Text → SoFar
after_words before words = if is_skipped words then before else after_kind (line_kind_named (word 0 words)) before words

-- the result of reading the words of a line: Ok if the line is valid or skipped, or its fault, or that memory was
-- refused
abbrev pub IsWordsAnswer : SoFar → List Text → Result (Unit {0}) Stop → SoFar → Type 0
IsWordsAnswer before words (Ok u) after =
    (is_skipped words ≡ false → IsSomeAnd (line_kind_named (word 0 words)) (λ kind. IsGood kind before words))
    × (after ≡ after_words before words)
IsWordsAnswer before words (Err stop) after = IfFault stop (λ one. (is_skipped words ≡ false) × IsFaultySaying before words one)

-- the result of reading a line: Ok if the line is readable, and valid or skipped, or its fault, or that memory was
-- refused
abbrev pub IsLineAnswer : SoFar → Text → Result (Unit {0}) Stop → SoFar → Type 0
IsLineAnswer before line (Ok u) after = IsGoodLine before line × (after ≡ after_words before (words_of line))
IsLineAnswer before line (Err stop) after = IfFault stop (IsFaultyLine before line)

-- the hosts, commands and traces after these lines, in order, from the first line of a text on
abbrev pub said_by : List Text → SoFar
said_by lines = fold (λ before line. after_words before (words_of line)) nothing_read lines

-- The first `count` lines are valid or skipped, each after the lines before it.
abbrev pub AreGood : ℕ → List Text → Type 0
AreGood count all = (k : ℕ) → k < count → IsGoodLine (said_by (take k all)) (word k all)

-- A text is read: all its lines are readable, and valid or skipped. `read` contains their hosts, commands and traces.
pub record IsScenarioRead (text : Text) (read : SoFar) : Type 0 where
  pub good : AreGood (length (lines text)) (lines text)
  pub said : read ≡ said_by (lines text)

-- The line with this number, from 1, is the first faulty line, and has this fault.
pub record IsRefusedAt (text : Text) (line : ℕ) (one : Fault) : Type 0 where
  pub least : 1 ≤ line
  pub there : line ≤ length (lines text)
  pub good : AreGood (line - 1) (lines text)
  pub faulty : IsFaultyLine (said_by (take (line - 1) (lines text))) (word (line - 1) (lines text)) one

-- A text is refused for this reason. The reason `Memory` is possible for every text.
abbrev pub IsRefused : Text → Refusal → Type 0
IsRefused text (refusal.Line line one) = IsRefusedAt text line one
IsRefused text refusal.Memory = Unit {0}
