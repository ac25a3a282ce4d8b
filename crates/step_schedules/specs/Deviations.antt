-- The deviation of a line (our choice; the format is that of `finder/README.md`, "A schedule").
use Rattle.std.specs.Prelude.{◌==◌, ◌-◌, ◌&&◌, ◌||◌, ℕ, Bool, List, [], ◌∷◌, Option, Some, None, Result, Ok, Err}
use Rattle.std.specs.Prelude.{false, if◌then◌else◌, codes, drop, is_some, length, nat_lt, not, string_bytes, true}
use Rattle.std.specs.List.{after_first, before_first, position_or_len}
use Rattle.std.specs.Option.{option_map}
use Rattle.std.specs.Str.{bytes_eq}
use Rattle.step_schedules.specs.Results.{◌>>=◌}
use Rattle.step_schedules.specs.Spellings.{digits_in, place_spelled}
use Rattle.step_schedules.specs.Words.{Text, action_words, event_words, word}
use Rattle.text.specs.Tables.{value_in}
use Rattle.step_schedules.specs.declared.deviation.Before.{Before}
use Rattle.step_schedules.specs.declared.deviation.Before.TheVariants.{Choice, Read, Request, Write}
use Rattle.step_schedules.specs.declared.deviation.Action.{Action}
use Rattle.step_schedules.specs.declared.deviation.Action.TheVariants.{TxTake, TxPut, RxData, RxDone, Tx, Rx, Arrive}
use Rattle.step_schedules.specs.declared.deviation.Action.TheVariants.{HoldEeprom, HoldPhy, EepromTick, PhyTick, Choose}
use Rattle.step_schedules.specs.declared.deviation.Deviation.{Deviation}
use Rattle.step_schedules.specs.declared.deviation.Place.{Place}
use Rattle.step_schedules.specs.declared.deviation.Site.{Site}
use Rattle.step_schedules.specs.declared.deviation.Site.TheVariants as site
use Rattle.step_schedules.specs.declared.deviation_words.Nameless.{Nameless}
use Rattle.step_schedules.specs.declared.schedule_error.Fault.{Fault}
use Rattle.step_schedules.specs.declared.schedule_error.Fault.TheVariants as faults

-- whether a place is before another place: in an earlier round, or in the same round before an earlier access
abbrev pub is_before : Place → Place → Bool
is_before place other =
    nat_lt place.round other.round || (place.round == other.round && nat_lt place.access other.access)

-- Actions.

-- the action that one word names, if there is one
unfoldable pub action_named : Text → Option Action
action_named word =
    value_in (
    (codes "txtake", TxTake) ∷ (codes "txput", TxPut) ∷ (codes "rxdata", RxData) ∷ (codes "rxdone", RxDone)
    ∷ (codes "tx", Tx) ∷ (codes "rx", Rx) ∷ (codes "arrive", Arrive)
    ∷ (codes "eeprom", EepromTick) ∷ (codes "phy", PhyTick) ∷ []
    ) word

-- the action that the word after `hold` names, if there is one
unfoldable pub hold_named : Text → Option Action
hold_named word = value_in ((codes "eeprom", HoldEeprom) ∷ (codes "phy", HoldPhy) ∷ []) word

-- whether a word is `hold`, which begins an action of two words
abbrev pub is_hold : Text → Bool
is_hold word = bytes_eq word (codes "hold")

-- whether a word is `choose`, which begins an action of two words
abbrev pub is_choose : Text → Bool
is_choose word = bytes_eq word (codes "choose")

-- the action that chooses the number that a word spells, or no action if the word spells no number
abbrev pub choice_in : Text → Option Action
choice_in word = option_map Choose (digits_in word)

-- the action that two words name, if there is one
abbrev pub action_of_two : (first second : Text) → Option Action
action_of_two first second =
    if is_hold first then hold_named second else if is_choose first then choice_in second else None

-- the action that these words name, if there is one
abbrev pub action_in : List Text → Option Action
action_in words =
    if length words == 1 then action_named (word 0 words)
    else if length words == 2 then action_of_two (word 0 words) (word 1 words)
    else None

-- whether an action begins with this word
abbrev pub begins_action : Text → Bool
begins_action word = is_some (action_named word) || is_hold word || is_choose word

-- The place at the beginning of a line.

-- the place of a word, if there is one; no place if the word begins an action; else a fault
abbrev pub place_or_action : Option Place → Text → Result (Option Place) Fault
place_or_action (Some place) word = Ok (Some place)
place_or_action None word = if begins_action word then Ok None else Err faults.Place

-- the place that the first word spells, or no place if the word begins an action; other words are a fault
abbrev pub place_at : Text → Result (Option Place) Fault
place_at word = place_or_action (place_spelled word) word

-- the words after the place, or all words if the line has no place
abbrev pub words_after_place : Option Place → List Text → List Text
words_after_place None words = words
words_after_place (Some place) words = drop 1 words

-- The access or the request at the end of a line.

-- the kind of access that a word names, if there is one
unfoldable pub event_kind_named : Text → Option Before
event_kind_named word = value_in ((codes "read", Read) ∷ (codes "write", Write) ∷ []) word

-- the kind of the request that a word names: a request that begins a round, or `choose`; no kind for other words
unfoldable pub request_named : Text → Option Before
request_named word =
    value_in (
    (codes "arrive", Request) ∷ (codes "offer", Request) ∷ (codes "step", Request) ∷ (codes "settle", Request)
    ∷ (codes "choose", Choice) ∷ []
    ) word

-- whether a byte is #
abbrev pub is_hash : ℕ → Bool
is_hash byte = byte == 0x23

-- whether a word contains #
abbrev pub has_hash : Text → Bool
has_hash word = nat_lt (position_or_len is_hash word) (length word)

-- the part of a word before its first #, or the whole word if it has no #
abbrev pub name_in : Text → Text
name_in word = if has_hash word then before_first is_hash word else word

-- this number, or a fault if there is no number
abbrev pub some_number : Option ℕ → Result (Option ℕ) Fault
some_number (Some number) = Ok (Some number)
some_number None = Err faults.Access

-- the number after a word's first #, or no number if the word has no #; other text after the # is a fault
abbrev pub number_after_hash : Text → Result (Option ℕ) Fault
number_after_hash word = if has_hash word then some_number (digits_in (after_first is_hash word)) else Ok None

-- the kind of the request that one word names, or of the access that two words name; no kind for other words
abbrev pub before_in : List Text → Option Before
before_in words =
    if length words == 1 then request_named (name_in (word 0 words))
    else if length words == 2 then event_kind_named (word 0 words)
    else None

-- this kind, or a fault if there is no kind
abbrev pub before_or_fault : Option Before → Result Before Fault
before_or_fault (Some before) = Ok before
before_or_fault None = Err faults.Access

-- the last word: a name, which may have a number after #; or an empty text if there is no word
abbrev pub last_word : List Text → Text
last_word words = word (length words - 1) words

-- as `number_after_hash`, but an empty name is also a fault
abbrev pub named_number : Text → Result (Option ℕ) Fault
named_number word = do
  number ← number_after_hash word
  if length (name_in word) == 0 then Err faults.Access else Ok number

-- Deviations.

-- Whether an access or a request of this kind can be at a place. A request that begins a round is at ROUND.0, and an access or `choose` is
-- at every other place.
abbrev pub is_place_of : Before → Place → Bool
is_place_of Request place = place.access == 0
is_place_of Read place = nat_lt 0 place.access
is_place_of Write place = nat_lt 0 place.access
is_place_of Choice place = nat_lt 0 place.access

-- the site at a place; a place at which no access or request of this kind can be is a fault
abbrev pub site_at_place : Place → Before → Result Site Fault
site_at_place place before = if is_place_of before place then Ok (site.Place place) else Err faults.RequestPlace

-- The site of a deviation, from the place at the beginning of its line and the number after # in its last word. A line with both or with
-- neither is a fault. The number 0 is a fault, and so is a place at which no access or request of the kind `before` can be.
abbrev pub site_in : Option Place → Option ℕ → Before → Result Site Fault
site_in (Some place) None before = site_at_place place before
site_in (Some place) (Some number) before = Err faults.PlaceAndNumber
site_in None None before = Err faults.NoNumber
site_in None (Some number) before = if nat_lt 0 number then Ok (site.Number number) else Err faults.NoNumber

-- whether an action chooses a number
abbrev pub is_choice : Action → Bool
is_choice (Choose number) = true
is_choice _ = false

-- whether an action may be before an access or a request of this kind: a chosen number only before `choose`, and nothing else there
abbrev pub takes : Before → Action → Bool
takes Choice action = is_choice action
takes Request action = not (is_choice action)
takes Read action = not (is_choice action)
takes Write action = not (is_choice action)

-- The site of a deviation, from the place and the last word of its line. An action that may not be before an access or a request of this
-- kind is a fault.
abbrev pub site_at : Option Place → Action → Before → Text → Result Site Fault
site_at place action before word = do
  number ← named_number word
  if takes before action then site_in place number before else Err faults.Choice

-- a deviation, with the bytes of its name
pub record DeviationValue : Type 0 where
  -- which access or request of the run the deviation is before
  pub site : Site
  -- the action
  pub action : Action
  -- the kind of the access or request
  pub before : Before
  -- the name of what is accessed, or the word of the request
  pub name : Text

-- a deviation as plain data
abbrev pub deviation_value : Deviation → DeviationValue
deviation_value deviation = record {
  site = deviation.site;
  action = deviation.action;
  before = deviation.before;
  name = string_bytes deviation.name;
}

-- this action, or a fault if there is no action
abbrev pub action_or_fault : Option Action → Result Action Fault
action_or_fault (Some action) = Ok action
action_or_fault None = Err faults.Action

-- the deviation of a line, except its name, from its place, the words after `before`, and its action
abbrev pub nameless_at : Option Place → (event : List Text) → Action → Result Nameless Fault
nameless_at place event action = do
  before ← before_or_fault (before_in event)
  site ← site_at place action before (last_word event)
  Ok (record { site = site; action = action; before = before })

-- the deviation of a line, except its name, from its place and the words before and after `before`
abbrev pub nameless_in : Option Place → (action event : List Text) → Result Nameless Fault
nameless_in place action event = action_or_fault (action_in action) >>= nameless_at place event

-- a deviation with the bytes of its name
abbrev pub with_name : Text → Nameless → Result DeviationValue Fault
with_name name read = Ok (record { site = read.site; action = read.action; before = read.before; name = name })

-- the deviation of a line, from its place, if it has one, and the other words
abbrev pub deviation_after : Option Place → List Text → Result DeviationValue Fault
deviation_after place words =
    nameless_in place (action_words words) (event_words words) >>= with_name (name_in (last_word (event_words words)))

-- the deviation of a line, from its words, of which there is at least one
abbrev pub deviation_in : List Text → Result DeviationValue Fault
deviation_in words = do
  place ← place_at (word 0 words)
  deviation_after place (words_after_place place words)
