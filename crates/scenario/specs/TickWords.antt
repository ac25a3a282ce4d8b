-- Which words spell a tick, and which tick they spell (our choice).
use Rattle.std.specs.Prelude.{◌==◌, ◌&&◌, ◌||◌, ℕ, Bool, List, [], ◌∷◌, Option, Some, None, codes, if◌then◌else◌, is_some, length, nat_lt}
use Rattle.std.specs.List.{after_first, before_first, position_or_len}
use Rattle.std.specs.Str.{bytes_eq}
use Rattle.adapter.specs.model_types.step.StepKind.TheVariants as step
use Rattle.stations.specs.declared.tick.Tick.{Tick}
use Rattle.stations.specs.declared.tick.Tick.TheVariants as tick
use Rattle.scenario.specs.SoFar.{Host, host_place}
use Rattle.text.specs.Tables.{value_in}
use Rattle.scenario.specs.Words.{Text}
use Rattle.scenario.specs.declared.tick_word.TickKind.{TickKind}
use Rattle.scenario.specs.declared.tick_word.TickKind.TheVariants as ticks

-- the names of the kinds of ticks
abbrev pub tick_kinds : List (Text × TickKind)
tick_kinds =
    (codes "txtake", ticks.Step step.TxTake)
    ∷ (codes "txput", ticks.Step step.TxPut)
    ∷ (codes "rxdata", ticks.Step step.RxData)
    ∷ (codes "rxdone", ticks.Step step.RxDone)
    ∷ (codes "eeprom", ticks.Step step.EepromTick)
    ∷ (codes "phy", ticks.Step step.PhyTick)
    ∷ (codes "deliver", ticks.Deliver)
    ∷ []

-- the kind of ticks with this name; None if there is no such kind
unfoldable pub tick_kind_named : Text → Option TickKind
tick_kind_named word = value_in tick_kinds word

-- whether a byte is a colon
abbrev pub is_colon : ℕ → Bool
is_colon byte = byte == 0x3A

-- the part of a word before its first colon, which names a kind of ticks
abbrev pub tick_kind_word : Text → Text
tick_kind_word word = before_first is_colon word

-- the part of a word after its first colon, which names a host
abbrev pub host_word : Text → Text
host_word word = after_first is_colon word

-- whether a word has a colon
abbrev pub has_colon : Text → Bool
has_colon word = nat_lt (position_or_len is_colon word) (length word)

-- whether a word spells a tick: `go`, or the name of a kind, a colon, and any text as the name of a host
abbrev pub is_tick : Text → Bool
is_tick word = bytes_eq word (codes "go") || (has_colon word && is_some (tick_kind_named (tick_kind_word word)))

-- the tick of this kind at a host
abbrev pub tick_at : TickKind → ℕ → Tick
tick_at (ticks.Step kind) host = tick.Step host kind
tick_at ticks.Deliver host = tick.Deliver host

-- the tick of a kind at a host, if both are known
abbrev pub tick_if : Option TickKind → Option ℕ → Option Tick
tick_if (Some kind) (Some host) = Some (tick_at kind host)
tick_if (Some kind) None = None
tick_if None host = None

-- the tick that a word spells, if the word is `go`, or its kind and its host are known; otherwise None
abbrev pub tick_named : List Host → Text → Option Tick
tick_named hosts word =
    if bytes_eq word (codes "go") then Some tick.Go
    else if has_colon word then tick_if (tick_kind_named (tick_kind_word word)) (host_place (host_word word) hosts)
    else None
