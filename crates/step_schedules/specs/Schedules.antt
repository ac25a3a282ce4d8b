-- The schedule of a text (our choice; the format is that of `finder/README.md`, "A schedule").
use Rattle.std.specs.Prelude.{⊤, ◌≡◌, ◌+◌, ◌++◌, ◌||◌, ◌∷◌, [], ℕ, Bool, List, Option, Some, None, Result, Ok, Err}
use Rattle.std.specs.Prelude.{IsUtf8, String, Vec, codes, drop, if◌then◌else◌, is_some, length, map, nat_lt}
use Rattle.std.specs.Prelude.{string_bytes}
use Rattle.std.specs.Option.{option_map}
use Rattle.std.specs.Str.{bytes_eq}
use Rattle.std.specs.Str.Lines.{lines}
use Rattle.std.specs.declared.alloc.Global.{Global}
use Rattle.step_schedules.specs.Deviations.{DeviationValue, deviation_in, deviation_value, is_before}
use Rattle.step_schedules.specs.Results.{FailsLine, ◌>>=◌}
use Rattle.step_schedules.specs.Words.{Text, words_before_comment}
use Rattle.step_schedules.specs.declared.deviation.Place.{Place}
use Rattle.step_schedules.specs.declared.deviation.Site.{Site}
use Rattle.step_schedules.specs.declared.deviation.Site.TheVariants as site
use Rattle.step_schedules.specs.declared.reader.Reader.{Reader}
use Rattle.step_schedules.specs.declared.schedule.Schedule.{Schedule}
use Rattle.step_schedules.specs.declared.schedule_error.Fault.{Fault}
use Rattle.step_schedules.specs.declared.schedule_error.Fault.TheVariants as faults
use Rattle.step_schedules.specs.declared.schedule_error.ScheduleError.{ScheduleError}
use Rattle.step_schedules.specs.declared.schedule_error.ScheduleError.TheVariants.{Line, Memory, Text as NoText}
use Rattle.step_schedules.specs.declared.schedule_error.Stop.{Stop}

-- a schedule, with the bytes of its words
pub record ScheduleValue : Type 0 where
  -- the words of the server's options, if the text has them
  pub options : Option (List Text)
  -- the deviations, in the order of the text
  pub deviations : List DeviationValue

-- the part of a schedule that was read so far
pub record ScheduleSoFar : Type 0 where
  -- the options and the deviations
  pub schedule : ScheduleValue
  -- the place of the last deviation with a place, or 0.0 if there is none
  pub last : Place

-- the server's options, as texts
abbrev pub option_texts : Vec (String Global) Global → List Text
option_texts options = map string_bytes options.items

-- a schedule as plain data
abbrev pub schedule_value : Schedule → ScheduleValue
schedule_value schedule = record {
  options = option_map option_texts schedule.options;
  deviations = map deviation_value schedule.deviations.items;
}

-- what a reader has read, as plain data
abbrev pub schedule_so_far : Reader → ScheduleSoFar
schedule_so_far reader = record { schedule = schedule_value reader.schedule; last = reader.last }

-- the state before the first line
abbrev pub no_schedule_read : ScheduleSoFar
no_schedule_read = record {
  schedule = record { options = None; deviations = [] };
  last = record { round = 0; access = 0 };
}

-- whether a line with words was read; then a line `options` is a fault
abbrev pub has_begun : ScheduleValue → Bool
has_begun schedule = is_some schedule.options || nat_lt 0 (length schedule.deviations)

-- what was read after a line `options`; the line is a fault if an earlier line has words
abbrev pub after_options : List Text → ScheduleSoFar → Result ScheduleSoFar Fault
after_options words before =
    if has_begun before.schedule then Err faults.Options
    else Ok (record before { schedule = record before.schedule { options = Some (drop 1 words) } })

-- the last place after a deviation; a place before the last place is a fault
abbrev pub place_after : Site → Place → Result Place Fault
place_after (site.Place place) last = if is_before place last then Err faults.Order else Ok place
place_after (site.Number number) last = Ok last

-- what was read after a deviation, which is the last one; a place before the last place is a fault
abbrev pub after_deviation : DeviationValue → ScheduleSoFar → Result ScheduleSoFar Fault
after_deviation deviation before = do
  last ← place_after deviation.site before.last
  Ok (record {
    schedule = record before.schedule { deviations = before.schedule.deviations ++ deviation ∷ [] };
    last = last;
  })

-- what was read after the words of a line that describes a deviation, or the line's fault
abbrev pub after_deviation_in : List Text → ScheduleSoFar → Result ScheduleSoFar Fault
after_deviation_in words before = deviation_in words >>= λ deviation. after_deviation deviation before

-- what was read after the words of a line, or the line's fault
abbrev pub after_line_words : List Text → ScheduleSoFar → Result ScheduleSoFar Fault
after_line_words [] before = Ok before
after_line_words (first ∷ rest) before =
    if bytes_eq first (codes "options") then after_options (first ∷ rest) before
    else after_deviation_in (first ∷ rest) before

-- what was read after a line, or the line's fault
abbrev pub after_schedule_line : Text → ScheduleSoFar → Result ScheduleSoFar Fault
after_schedule_line line before = after_line_words (words_before_comment line) before

-- The call returned Ok, and `after` is what was read so far; or the call returned the line's fault; or memory was refused.
abbrev pub Becomes : Result (Unit {0}) Stop → Result ScheduleSoFar Fault → ScheduleSoFar → Type 0
Becomes (Ok u) read after = read ≡ Ok after
Becomes (Err stop) read after = FailsLine stop read

-- the result of reading a line and the lines after it, or the number and the fault of the line if it is faulty
abbrev pub then_rest : Result ScheduleSoFar Fault → (number : ℕ) → (ScheduleSoFar → Result ScheduleSoFar (ℕ × Fault))
    → Result ScheduleSoFar (ℕ × Fault)
then_rest (Ok after) number rest = rest after
then_rest (Err fault) number rest = Err (number, fault)

-- what was read after lines, numbered from `number`, or the number and the fault of the first faulty line
abbrev pub after_lines : List Text → (number : ℕ) → ScheduleSoFar → Result ScheduleSoFar (ℕ × Fault)
after_lines [] number before = Ok before
after_lines (line ∷ rest) number before = then_rest (after_schedule_line line before) number (after_lines rest (number + 1))

-- what was read after all lines of a text in UTF-8, or the number of its first faulty line, from 1, and the fault
abbrev pub read_in : Text → Result ScheduleSoFar (ℕ × Fault)
read_in text = after_lines (lines text) 1 no_schedule_read

-- The error is the number and the fault of the first faulty line, or is that memory was refused.
abbrev pub StopsReading : {A : Type 0} → ScheduleError → Result A (ℕ × Fault) → Type 0
StopsReading (Line line fault) read = read ≡ Err (line, fault)
StopsReading NoText read = ⊥
StopsReading Memory read = ⊤

-- The call returned Ok, and `after` is what was read; or it returned the number and the fault of the first faulty line; or memory was
-- refused.
abbrev pub AreLinesRead : Result ScheduleSoFar (ℕ × Fault) → Result (Unit {0}) ScheduleError → ScheduleSoFar → Type 0
AreLinesRead read (Ok u) after = read ≡ Ok after
AreLinesRead read (Err error) after = StopsReading error read

-- The reader contains what was read of the text; or the error is that of `StopsReading`.
abbrev pub IsTextRead : Text → Result Reader ScheduleError → Type 0
IsTextRead text (Ok reader) = read_in text ≡ Ok (schedule_so_far reader)
IsTextRead text (Err error) = StopsReading error (read_in text)

-- the schedule that was read, or the first fault and its line
abbrev pub schedule_of : Result ScheduleSoFar (ℕ × Fault) → Result ScheduleValue (ℕ × Fault)
schedule_of (Ok read) = Ok read.schedule
schedule_of (Err fault) = Err fault

-- the schedule of a text in UTF-8, or the number of its first faulty line and the fault
abbrev pub schedule_in : Text → Result ScheduleValue (ℕ × Fault)
schedule_in text = schedule_of (read_in text)

-- The result is the schedule of the text; or the number and the fault of its first faulty line; or the text isn't UTF-8; or memory was
-- refused.
abbrev pub IsRead : Text → Result Schedule ScheduleError → Type 0
IsRead text (Ok schedule) = IsUtf8 text × (schedule_in text ≡ Ok (schedule_value schedule))
IsRead text (Err (Line line fault)) = IsUtf8 text × (schedule_in text ≡ Err (line, fault))
IsRead text (Err NoText) = ¬ (IsUtf8 text)
IsRead text (Err Memory) = ⊤
