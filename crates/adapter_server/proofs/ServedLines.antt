-- Lines that are answered, one after another.
use Rattle.std.proofs.Common.{◌≡◌, ◌≢◌, ◌<◌, ◌≤◌, ◌++◌, ℕ, Bool, true, false, List, [], ◌∷◌, Option, Some, None, length, nat_lt}
use Rattle.std.proofs.Common.{ap, append_assoc, arith, refl, sym, subst, ◌∙◌}
use Rattle.std.proofs.lemmas.Bool.Decides.{nat_tests}
use Rattle.std.proofs.lemmas.List.{append-nil}
use Rattle.std.specs.Prelude.{Err, IfErr, IfSome, IsErr, MatchBool, Ok, OnOk, Result}
use Rattle.std.specs.Io.KnownBytes.{Appends, Keeps}
use Rattle.adapter_server.specs.Answers.{AnswersLine, Refuses}
use Rattle.server_output.specs.Order.{WritesText}
use Rattle.server_requests.specs.Lines.{behind_line, first_line, lines_of, most_line_bytes}
use Rattle.server_requests.specs.LinesRead.{AtEnd, BothKnown, IsLong, IsNextLine, IsWholeLine}
use Rattle.adapter_server.specs.Serving.{AnswersNext, Serves, ServesFront, ServesTo, ServesWhole, Turns, player_of}
use Rattle.adapter_server.specs.Causes.{ended_by}
use Rattle.server_output.specs.Texts.{Text}
use Rattle.server_output.specs.declared.answer_error.AnswerError.{AnswerError}
use Rattle.server_output.specs.declared.answer_error.AnswerError.TheVariants as causes
use Rattle.server_requests.specs.declared.line_reader.NextLine.{NextLine}
use Rattle.server_requests.specs.declared.line_reader.NextLine.TheVariants.{End, Whole, Long}
use Rattle.server_requests.specs.declared.refusal.Refusal.TheVariants as refusals
use Rattle.adapter_server.specs.declared.serve_error.ServeError.TheVariants as errors
use Rattle.adapter_server.specs.declared.snapshot.Server.{Server}
use Rattle.server_requests.proofs.ReadingLines.{known_same, known_then, lines_some}
use Rattle.server_output.proofs.Writing.{appends_kept, appends_none, appends_then, tells_so}
use Rattle.played_adapter.proofs.Telling.{in_order_more}

-- Lines were read and answered: `old` has these lines and then the lines of `new`, and the text consists of the answers.
pub record Served (begin now : Server) (text : Text) (old new : List ℕ) : Type 0 where
  pub front : List Text
  pub lines : lines_of old ≡ front ++ lines_of new
  pub serves : Serves front begin now text

pub record ServesOn (old new : Option (List ℕ)) (begin now : Server) (before after : Option (List ℕ)) : Type 0 where
  pub text : Text
  pub written : Appends before after text
  pub goes : BothKnown old new (Served begin now text)

pub serves_none : (bytes : Option (List ℕ)) (begin : Server) (before : Option (List ℕ)) → ServesOn bytes bytes begin begin before before
serves_none bytes begin before = record {
  text = [];
  written = appends_none before;
  goes = known_same bytes (Served begin begin []) (λ some. record { front = []; lines = refl; serves = (refl, refl) });
}

more_served : (begin now next : Server) (text first : Text) (old new later : List ℕ) → Served begin now text old new → new ≢ []
    → later ≡ behind_line new → Turns (first_line new) now next first → Served begin next (text ++ first) old later
more_served begin now next text first old new later on some later_is turn = record {
  front = on.front ++ first_line new ∷ [];
  lines = on.lines ∙ ap (λ (lines : List Text). on.front ++ lines) (lines_some new some)
      ∙ sym (append_assoc on.front (first_line new ∷ []) (lines_of (behind_line new)))
      ∙ ap (λ (bytes : List ℕ). (on.front ++ first_line new ∷ []) ++ lines_of bytes) (sym later_is);
  serves = in_order_more Turns on.front (first_line new) begin now next text first on.serves turn;
}

is_short : (n : ℕ) → n ≤ most_line_bytes → nat_lt most_line_bytes n ≡ false
is_short n short = grind (arith, nat_tests)

is_long : (n : ℕ) → most_line_bytes < n → nat_lt most_line_bytes n ≡ true
is_long n long = grind (arith, nat_tests)

pub short_turn : (line : Text) (a b : Server) (text : Text) → length line ≤ most_line_bytes → AnswersLine line a b text
    → Turns line a b text
short_turn line a b text short answers =
    subst (λ (is : Bool). MatchBool is (Refuses refusals.Long a b text) (AnswersLine line a b text)) (sym (is_short (length line) short))
    answers

pub long_turn : (line : Text) (a b : Server) (text : Text) → most_line_bytes < length line → Refuses refusals.Long a b text
    → Turns line a b text
long_turn line a b text long refuses =
    subst (λ (is : Bool). MatchBool is (Refuses refusals.Long a b text) (AnswersLine line a b text)) (sym (is_long (length line) long))
    refuses

serves_whole : (old new later : Option (List ℕ)) (begin now next : Server) (line : Text) (before middle after : Option (List ℕ))
    → ServesOn old new begin now before middle → BothKnown new later (IsWholeLine line)
    → WritesText middle after (AnswersLine line now next) → ServesOn old later begin next before after
serves_whole old new later begin now next line before middle after on whole told = record {
  text = on.text ++ told.text;
  written = appends_then before middle after on.text told.text on.written told.written;
  goes = known_then old new later (Served begin now on.text) (IsWholeLine line) (Served begin next (on.text ++ told.text))
      (λ a b c goes is.
      more_served begin now next on.text told.text a b c goes is.some is.rest
      (short_turn (first_line b) now next told.text is.short
      (subst (λ (l : Text). AnswersLine l now next told.text) is.line_is told.holds)))
      on.goes whole;
}

serves_long : (old new later : Option (List ℕ)) (begin now next : Server) (before middle after : Option (List ℕ))
    → ServesOn old new begin now before middle → BothKnown new later IsLong
    → WritesText middle after (Refuses refusals.Long now next) → ServesOn old later begin next before after
serves_long old new later begin now next before middle after on long told = record {
  text = on.text ++ told.text;
  written = appends_then before middle after on.text told.text on.written told.written;
  goes = known_then old new later (Served begin now on.text) IsLong (Served begin next (on.text ++ told.text))
      (λ a b c goes is.
      more_served begin now next on.text told.text a b c goes is.some is.rest
      (long_turn (first_line b) now next told.text is.long told.holds))
      on.goes long;
}

serves_end : (old new later : Option (List ℕ)) (begin now next : Server) (before middle after : Option (List ℕ))
    → ServesOn old new begin now before middle → BothKnown new later AtEnd
    → WritesText middle after (λ text. (next ≡ now) × (text ≡ [])) → ServesOn old later begin next before after
serves_end old new later begin now next before middle after on ends told =
    let same : on.text ≡ on.text ++ told.text = sym (ap (λ (t : Text). on.text ++ t) told.holds.1 ∙ append-nil on.text) in
    record {
      text = on.text ++ told.text;
      written = appends_then before middle after on.text told.text on.written told.written;
      goes = known_then old new later (Served begin now on.text) AtEnd (Served begin next (on.text ++ told.text))
          (λ a b c goes end. record {
            front = goes.front;
            lines = goes.lines ∙ ap (λ (bytes : List ℕ). goes.front ++ lines_of bytes) (end.none ∙ sym end.still);
            serves = subst (λ (t : Text). Serves goes.front begin next t) same
                (subst (λ (s : Server). Serves goes.front begin s on.text) (sym told.holds.0) goes.serves);
          }) on.goes ends;
    }

pub serves_next : (what : NextLine) (old new later : Option (List ℕ)) (begin now next : Server) (line : Text)
    (before middle after : Option (List ℕ)) → ServesOn old new begin now before middle → IsNextLine what line new later
    → WritesText middle after (AnswersNext what line now next) → ServesOn old later begin next before after
serves_next End old new later begin now next line before middle after on read told =
    serves_end old new later begin now next before middle after on read told
serves_next Whole old new later begin now next line before middle after on read told =
    serves_whole old new later begin now next line before middle after on read told
serves_next Long old new later begin now next line before middle after on read told =
    serves_long old new later begin now next before middle after on read told

pub serves_lines : (old new later : Option (List ℕ)) (begin now : Server) (before after : Option (List ℕ))
    → ServesOn old new begin now before after → BothKnown new later AtEnd
    → IfSome old (λ bytes. WritesText before after (ServesWhole bytes begin now))
serves_lines None new later begin now before after on ends = tt
serves_lines (Some old) None later begin now before after on ends = absurd on.goes
serves_lines (Some old) (Some new) None begin now before after on ends = absurd ends
serves_lines (Some old) (Some new) (Some later) begin now before after on ends =
    let all : lines_of old ≡ on.goes.front =
    on.goes.lines ∙ ap (λ (left : List ℕ). on.goes.front ++ lines_of left) ends.none ∙ append-nil on.goes.front in
    record {
      text = on.text;
      holds = subst (λ (lines : List Text). Serves lines begin now on.text) (sym all) on.goes.serves;
      written = on.written;
    }

pub serves_to : (bytes : Option (List ℕ)) (begin last : Server) (before after : Option (List ℕ))
    → IfSome bytes (λ all. WritesText before after (ServesWhole all begin last))
    → IfSome bytes (λ all. WritesText before after (ServesTo all begin (player_of last.session.agenda last.session.kept.recorder)))
serves_to None begin last before after serves = tt
serves_to (Some all) begin last before after serves =
    tells_so (ServesWhole all begin last) (ServesTo all begin (player_of last.session.agenda last.session.kept.recorder)) before after
    (λ text lines. record { last = last; serves = lines; player = refl }) serves

pub serves_so : (Holds : List ℕ → Text → Type 0) (old new : Option (List ℕ)) (begin now : Server) (before after : Option (List ℕ))
    → ((bytes left : List ℕ) (text : Text) → Served begin now text bytes left → Holds bytes text)
    → ServesOn old new begin now before after → IfSome old (λ bytes. WritesText before after (Holds bytes))
serves_so Holds None new begin now before after holds on = tt
serves_so Holds (Some old) None begin now before after holds on = absurd on.goes
serves_so Holds (Some old) (Some new) begin now before after holds on =
    record { text = on.text; holds = holds old new on.text on.goes; written = on.written }

pub serves_front : (old new : Option (List ℕ)) (begin now : Server) (before after : Option (List ℕ))
    → ServesOn old new begin now before after → IfSome old (λ bytes. WritesText before after (ServesFront bytes begin))
serves_front old new begin now before after =
    serves_so (λ bytes. ServesFront bytes begin) old new begin now before after (λ bytes left text goes.
    record { answered = goes.front; left = lines_of left; lines = goes.lines; last = now; serves = goes.serves })

pub tells_sent : (before after sent : Option (List ℕ)) (Holds : Text → Type 0) → WritesText before after Holds → Keeps after sent
    → WritesText before sent Holds
tells_sent before after sent Holds told kept = record {
  text = told.text;
  holds = told.holds;
  written = appends_kept before after sent told.text told.written kept;
}

pub never_read : (cause : AnswerError) → ended_by cause ≡ errors.Read → ⊥
never_read causes.Memory same = cc
never_read causes.Write same = cc

pub whatever_error : {T E : Type 0} (result : Result T E) (Q : E → Type 0) (P : Type 0) → P → IfErr result (λ error. Q error → P)
whatever_error (Ok value) Q P holds = tt
whatever_error (Err error) Q P holds = λ q. holds

pub never_ok : {T E : Type 0} (result : Result T E) (P : Type 0) → IsErr result → OnOk result P
never_ok (Ok value) P is = absurd (cc)
never_ok (Err error) P is = tt
