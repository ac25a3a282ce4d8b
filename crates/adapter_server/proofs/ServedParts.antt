-- Lines that are answered until the server stops.
use Rattle.std.proofs.Common.{◌≡◌, ◌≢◌, ◌++◌, ℕ, List, [], ◌∷◌, Option, Some, None, ap, inl, inr, refl, sym, subst, ◌∙◌}
use Rattle.std.proofs.lemmas.List.{append-nil}
use Rattle.std.specs.Prelude.{Err, IfErr, IfSome, IsErrAnd, Ok, OnOk, Result}
use Rattle.std.specs.Io.KnownBytes.{Keeps}
use Rattle.adapter_server.specs.Answers.{AnswersLine, Reaches, Refuses}
use Rattle.server_output.specs.Order.{IsBeginning, WritesText, TellsPart}
use Rattle.server_requests.specs.Lines.{behind_line, first_line, lines_of}
use Rattle.server_requests.specs.LinesRead.{BothKnown, IsLong, IsNextLine, IsWholeLine}
use Rattle.adapter_server.specs.Serving.{AnswersNext, BeginsNext, ServesBegun, Turns}
use Rattle.adapter_server.specs.Causes.{ended_by}
use Rattle.server_output.specs.Texts.{Text}
use Rattle.server_output.specs.declared.answer_error.AnswerError.{AnswerError}
use Rattle.server_requests.specs.declared.line_reader.NextLine.{NextLine}
use Rattle.server_requests.specs.declared.line_reader.NextLine.TheVariants.{End, Whole, Long}
use Rattle.server_requests.specs.declared.refusal.Refusal.TheVariants as refusals
use Rattle.adapter_server.specs.declared.serve_error.ServeError.{ServeError}
use Rattle.adapter_server.specs.declared.serve_error.ServeError.TheVariants as errors
use Rattle.adapter_server.specs.declared.snapshot.Server.{Server}
use Rattle.server_output.proofs.PartsWritten.{part_whole}
use Rattle.server_requests.proofs.ReadingLines.{lines_some}
use Rattle.adapter_server.proofs.ServedLines.{Served, ServesOn, long_turn, never_read, serves_so, short_turn, tells_sent}
use Rattle.adapter_server.proofs.Printing.{part_reached}
use Rattle.server_output.proofs.Writing.{appends_then, tells_so}

begins_nothing : (lines : List Text) (a : Server) → BeginsNext lines a []
begins_nothing [] a = refl
begins_nothing (line ∷ later) a = record {
  text = [];
  rest = [];
  holds = inl refl;
  text_is = refl;
}

pub serves_stopped : (old new : Option (List ℕ)) (begin now : Server) (before after : Option (List ℕ))
    → ServesOn old new begin now before after → IfSome old (λ bytes. WritesText before after (ServesBegun bytes begin))
serves_stopped old new begin now before after =
    serves_so (λ bytes. ServesBegun bytes begin) old new begin now before after (λ bytes left text goes. record {
      answered = goes.front;
      left = lines_of left;
      lines = goes.lines;
      last = now;
      front = text;
      part = [];
      serves = goes.serves;
      begun = begins_nothing (lines_of left) now;
      text_is = sym (append-nil text);
    })

in_line : (begin now : Server) (text part : Text) (old new : List ℕ) → Served begin now text old new → new ≢ []
    → IsBeginning (Reaches (Turns (first_line new) now)) part → ServesBegun old begin (text ++ part)
in_line begin now text part old new on some begins = record {
  answered = on.front;
  left = first_line new ∷ lines_of (behind_line new);
  lines = on.lines ∙ ap (λ (lines : List Text). on.front ++ lines) (lines_some new some);
  last = now;
  front = text;
  part = part;
  serves = on.serves;
  begun = begins;
  text_is = refl;
}

module _ (Is : List ℕ → List ℕ → Type 0) (now : Server) (Answers : Server → Text → Type 0)
    (some : (new later : List ℕ) → Is new later → new ≢ [])
    (turn : (new later : List ℕ) → Is new later → (b : Server) (text : Text) → Answers b text → Turns (first_line new) now b text) where
  serves_in : (old new later : Option (List ℕ)) (begin : Server) (before middle after : Option (List ℕ))
      → ServesOn old new begin now before middle → BothKnown new later Is → TellsPart middle after (Reaches Answers)
      → IfSome old (λ bytes. WritesText before after (ServesBegun bytes begin))
  serves_in None new later begin before middle after on is part = tt
  serves_in (Some old) None later begin before middle after on is part = absurd on.goes
  serves_in (Some old) (Some new) None begin before middle after on is part = absurd is
  serves_in (Some old) (Some new) (Some later) begin before middle after on is part =
      let all = part_reached Answers (Turns (first_line new) now) (λ (s : Server). s) middle after
      (turn new later is) part in
      record {
        text = on.text ++ all.text;
        holds = in_line begin now on.text all.text old new on.goes (some new later is) all.holds;
        written = appends_then before middle after on.text all.text on.written all.written;
      }

pub serves_part : (what : NextLine) (old new later : Option (List ℕ)) (begin now : Server) (line : Text)
    (before middle after : Option (List ℕ)) → ServesOn old new begin now before middle → IsNextLine what line new later → what ≢ End
    → TellsPart middle after (Reaches (AnswersNext what line now))
    → IfSome old (λ bytes. WritesText before after (ServesBegun bytes begin))
serves_part End old new later begin now line before middle after on read more part = absurd (more refl)
serves_part Whole old new later begin now line before middle after on read more part =
    serves_in (IsWholeLine line) now (AnswersLine line now) (λ left later is. is.some)
    (λ left later is b text answers.
    short_turn (first_line left) now b text is.short
    (subst (λ (l : Text). AnswersLine l now b text) is.line_is answers)) old new later begin before middle after on read part
serves_part Long old new later begin now line before middle after on read more part =
    serves_in IsLong now (Refuses refusals.Long now) (λ left later is. is.some)
    (λ left later is b text refuses. long_turn (first_line left) now b text is.long refuses) old new later begin before middle after on
    read part

pub answering_stopped : {T : Type 0} (result : Result T ServeError) (cause : AnswerError) (Done Front : Type 0)
    → IsErrAnd result (λ error. error ≡ ended_by cause) → OnOk result Done × IfErr result (λ error. error ≡ errors.Read → Front)
answering_stopped (Ok value) cause Done Front stopped = absurd stopped
answering_stopped (Err error) cause Done Front stopped = (tt, λ read. absurd (never_read cause (sym stopped ∙ read)))

pub answer_sent : {S : Type 0} (Answers : S → Text → Type 0) (b : S) (before after sent : Option (List ℕ))
    → WritesText before after (Answers b) → Keeps after sent → TellsPart before sent (Reaches Answers)
answer_sent Answers b before after sent told kept =
    part_whole (Reaches Answers) before sent
    (tells_so (Answers b) (Reaches Answers) before sent (λ text answers. inr (b, answers))
    (tells_sent before after sent (Answers b) told kept))
