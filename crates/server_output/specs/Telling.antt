-- The lines that a server writes about events at an adapter, and what the server keeps (our choice).
use Rattle.std.specs.Prelude.{◌≡◌, ◌++◌, ℕ, Bool, List, [], ◌∷◌, Option, Some, None, Result, Err}
use Rattle.std.specs.Prelude.{flat_map, if◌then◌else◌}
use Rattle.std.specs.Io.KnownBytes.{Appends, Keeps}
use Rattle.std.specs.Option.{option_map}
use Rattle.adapter.specs.Outcomes.{FrameOutcome, put_by, with_frame}
use Rattle.access_names.specs.declared.engine_fault.EngineFault.{EngineFault}
use Rattle.played_adapter.specs.Told.{Accessed, Arrived, Line, Noted, OfferedArrived, Stepped, Told}
use Rattle.server_output.specs.Order.{Says, WritesPart}
use Rattle.server_output.specs.Texts.{Text, arrive_said, arrived_line, fault_line, frame_line, line_told, said_log, step_said}
use Rattle.server_output.specs.declared.answer_error.AnswerError.{AnswerError}
use Rattle.server_output.specs.declared.kept.Kept.{Kept}
use Rattle.step_schedules.specs.Players.{after_playing}

-- the list of one value, or an empty list if there is no value
abbrev pub as_list : {T : Type 0} → Option T → List T
as_list (Some one) = one ∷ []
as_list None = []

-- The values that are kept.

-- What is kept after a step with this outcome and this fault. If events aren't written, the frame that the step put and the fault are also
-- kept.
abbrev pub kept_with : FrameOutcome → Option EngineFault → Kept → Kept
kept_with outcome fault kept = record kept {
  put = if kept.events then kept.put else kept.put ++ put_by outcome;
  faults = if kept.events then kept.faults else kept.faults ++ as_list fault;
}

-- what is kept after one thing was told; the recorder, if there is one, notes an action
abbrev pub kept_one : Told → Kept → Kept
kept_one (Stepped kind outcome fault) kept = kept_with outcome fault kept
kept_one (Arrived frame fate) kept = kept
kept_one (OfferedArrived frame fate) kept = kept
kept_one (Accessed access) kept = kept
kept_one (Line level) kept = kept
kept_one (Noted action) kept = record kept { recorder = option_map (after_playing action) kept.recorder }

-- what is kept after this list was told, in order
abbrev pub kept_after : List Told → Kept → Kept
kept_after [] kept = kept
kept_after (one ∷ later) kept = kept_after later (kept_one one kept)

-- The text that is written.

-- the line of the frame, if the step put a frame, and then the line of the fault, if there is a fault; no text if events aren't written
abbrev pub step_shown : (events : Bool) → FrameOutcome → Option EngineFault → Text
step_shown events outcome fault =
    (if events then flat_map frame_line (put_by outcome) else []) ++ (if events then flat_map fault_line (as_list fault) else [])

-- the text about one thing that is told; for an access or an arrival that was requested, the log prints the line of the request
abbrev pub told_text : (log events : Bool) → (said : Text) → Told → Text
told_text log events said (Stepped kind outcome fault) =
    said_log log (step_said kind (with_frame tt outcome)) ++ step_shown events outcome fault
told_text log events said (Arrived frame fate) = said_log log said
told_text log events said (OfferedArrived frame fate) = said_log log (arrive_said frame) ++ (if events then arrived_line fate frame else [])
told_text log events said (Accessed access) = said_log log said
told_text log events said (Line level) = line_told (Some level)
told_text log events said (Noted action) = []

-- the text about a list that is told, in order
abbrev pub text_of : Kept → (said : Text) → List Told → Text
text_of kept said told = flat_map (told_text kept.log kept.events said) told

-- A text was written, or a beginning of the text if writing stopped in it. If writing had stopped before, nothing was written.
abbrev pub WroteText : (was is : Option AnswerError) → (before after : Option (List ℕ)) → Text → Type 0
WroteText (Some error) is before after text = (is ≡ Some error) × Keeps before after
WroteText None None before after text = Appends before after text
WroteText None (Some error) before after text = WritesPart before after text

-- The line of an answer was written, or at an error a beginning of the line. If writing had stopped before, nothing was written, and the
-- result is the error that stopped writing.
abbrev pub Ends : {T : Type 0} → (was : Option AnswerError) → Result T AnswerError → (before after : Option (List ℕ)) → Text → Type 0
Ends None result before after line = Says result before after line
Ends (Some error) result before after line = (result ≡ Err error) × Keeps before after

-- The list `told` was told between two states. A state is the line of the request, what is kept, the error that stopped writing, and what
-- was written.
pub record Heard (said said' : Text) (kept kept' : Kept) (was is : Option AnswerError) (before after : Option (List ℕ)) (told : List Told)
    : Type 0 where
  -- the line of the request is the same
  pub said_is : said' ≡ said
  -- the text about the list was written, or a beginning of this text if writing stopped in it
  pub wrote : WroteText was is before after (text_of kept said told)
  -- if writing hasn't stopped, `kept'` is what is kept after this list was told
  pub kept_is : is ≡ None → kept' ≡ kept_after told kept
