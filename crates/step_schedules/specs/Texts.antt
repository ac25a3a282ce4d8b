-- Schedules as texts (our choice; the format is that of `finder/README.md`, "A schedule").
use Rattle.std.specs.Prelude.{◌++◌, [], List, Option, Some, None, codes, flat_map}
use Rattle.std.specs.Fmt.{decimal}
use Rattle.step_schedules.specs.Deviations.{DeviationValue}
use Rattle.step_schedules.specs.Schedules.{ScheduleValue}
use Rattle.step_schedules.specs.Words.{Text}
use Rattle.step_schedules.specs.declared.deviation.Before.{Before}
use Rattle.step_schedules.specs.declared.deviation.Before.TheVariants.{Choice, Read, Request, Write}
use Rattle.step_schedules.specs.declared.deviation.Action.{Action}
use Rattle.step_schedules.specs.declared.deviation.Action.TheVariants.{TxTake, TxPut, RxData, RxDone, Tx, Rx, Arrive}
use Rattle.step_schedules.specs.declared.deviation.Action.TheVariants.{HoldEeprom, HoldPhy, EepromTick, PhyTick, Choose}
use Rattle.step_schedules.specs.declared.deviation.Site.{Site}
use Rattle.step_schedules.specs.declared.deviation.Site.TheVariants as site

-- the words of an action, without the number of a choice
abbrev pub action_words : Action → Text
action_words TxTake = codes "txtake"
action_words TxPut = codes "txput"
action_words RxData = codes "rxdata"
action_words RxDone = codes "rxdone"
action_words Tx = codes "tx"
action_words Rx = codes "rx"
action_words Arrive = codes "arrive"
action_words HoldEeprom = codes "hold eeprom"
action_words HoldPhy = codes "hold phy"
action_words EepromTick = codes "eeprom"
action_words PhyTick = codes "phy"
action_words (Choose number) = codes "choose"

-- the words of an action, with the number of a choice
abbrev pub action_text : Action → Text
action_text (Choose number) = codes "choose" ++ codes " " ++ decimal number
action_text action = action_words action

-- the part of a line from `before` to the name
abbrev pub before_text : Before → Text
before_text Read = codes "before read "
before_text Write = codes "before write "
before_text Request = codes "before "
before_text Choice = codes "before "

-- the text of a deviation without its place and number
abbrev pub deviation_event_text : DeviationValue → Text
deviation_event_text deviation =
    action_text deviation.action ++ codes " " ++ before_text deviation.before ++ deviation.name

-- the line of a deviation: its place and then the other text, or this text and then # and its number
abbrev pub text_at : Site → Text → Text
text_at (site.Place place) event = decimal place.round ++ codes "." ++ decimal place.access ++ codes " " ++ event
text_at (site.Number number) event = event ++ codes "#" ++ decimal number

-- the line of a deviation, without its LF
abbrev pub deviation_text : DeviationValue → Text
deviation_text deviation = text_at deviation.site (deviation_event_text deviation)

-- the line of a deviation, with its LF
abbrev pub deviation_line : DeviationValue → Text
deviation_line deviation = deviation_text deviation ++ codes "\n"

-- the lines of these deviations, in order
abbrev pub deviation_lines : List DeviationValue → Text
deviation_lines deviations = flat_map deviation_line deviations

-- an option, after a space
abbrev pub option_text : Text → Text
option_text option = codes " " ++ option

-- the line of the server's options
abbrev pub options_line : List Text → Text
options_line options = codes "options" ++ flat_map option_text options ++ codes "\n"

-- the line of the server's options, or no text if there are no options
abbrev pub options_text : Option (List Text) → Text
options_text (Some options) = options_line options
options_text None = []

-- the text of a schedule
abbrev pub schedule_text : ScheduleValue → Text
schedule_text schedule = options_text schedule.options ++ deviation_lines schedule.deviations
