-- Answers in parts, and what was written before the server stopped.
use Rattle.std.proofs.Common.{◌≡◌, ◌++◌, ℕ, List, [], Option, None, ap, inl, inr, refl, subst, sym}
use Rattle.std.specs.Io.KnownBytes.{Keeps}
use Rattle.std.specs.Prelude.{Err, IsErr, Ok, OnOk, Result}
use Rattle.played_adapter.specs.Told.{Told}
use Rattle.played_adapter.specs.declared.player.PlayedAdapter.{PlayedAdapter}
use Rattle.server_output.specs.Order.{Says, TellsPart}
use Rattle.server_output.specs.Telling.{Ends, Heard, kept_after, text_of}
use Rattle.server_output.specs.Texts.{Text, ok_line}
use Rattle.server_output.specs.declared.answer_error.AnswerError.{AnswerError}
use Rattle.server_output.specs.declared.kept.Kept.{Kept}
use Rattle.server_output.proofs.Ending.{ended, unended}
use Rattle.server_output.proofs.PartsWritten.{part_so}
use Rattle.server_output.proofs.Writing.{appends_none, tells_so}
use Rattle.adapter_server.specs.Answers.{Changes, OnSession, Played, Reaches, Replies, TellsAnswer}
use Rattle.adapter_server.specs.declared.session.Session.{Session}
use Rattle.adapter_server.specs.declared.snapshot.Server.{Server}

pub answer_again : {T E S : Type 0} (result : Result T E) (Answers : S → Text → Type 0) (b : S) (before after : Option (List ℕ))
    → IsErr result → TellsPart before after (Reaches Answers) → TellsAnswer result before after Answers b
answer_again (Ok value) Answers b before after is part = absurd (cc)
answer_again (Err error) Answers b before after is part = part

pub nothing_written : {S : Type 0} (Answers : S → Text → Type 0) (before : Option (List ℕ)) → TellsPart before before (Reaches Answers)
nothing_written Answers before = record {
  text = [];
  holds = record { text = []; rest = []; holds = inl refl; text_is = refl };
  written = appends_none before;
}

pub answer_none : {T E S : Type 0} (result : Result T E) (Answers : S → Text → Type 0) (b : S) (before : Option (List ℕ)) → IsErr result
    → TellsAnswer result before before Answers b
answer_none result Answers b before is =
    answer_again result Answers b before before is (nothing_written Answers before)

reaches_so : {S U : Type 0} (P : S → Text → Type 0) (Q : U → Text → Type 0) (f : S → U)
    → ((b : S) (text : Text) → P b text → Q (f b) text) → (text : Text) → Reaches P text → Reaches Q text
reaches_so P Q f so text (inl none) = inl none
reaches_so P Q f so text (inr answered) = inr (f answered.0, so answered.0 text answered.1)

pub part_reached : {S U : Type 0} (P : S → Text → Type 0) (Q : U → Text → Type 0) (f : S → U) (before after : Option (List ℕ))
    → ((b : S) (text : Text) → P b text → Q (f b) text) → TellsPart before after (Reaches P) → TellsPart before after (Reaches Q)
part_reached P Q f before after so part = part_so (Reaches P) (Reaches Q) before after (reaches_so P Q f so) part

pub answer_so : {T E S U : Type 0} (result : Result T E) (P : S → Text → Type 0) (Q : U → Text → Type 0) (f : S → U) (b : S)
    (before after : Option (List ℕ)) → ((b : S) (text : Text) → P b text → Q (f b) text) → TellsAnswer result before after P b
    → TellsAnswer result before after Q (f b)
answer_so (Ok value) P Q f b before after so tells = tells_so (P b) (Q (f b)) before after (so b) tells
answer_so (Err error) P Q f b before after so part = part_reached P Q f before after so part

pub replied : {T E S : Type 0} (answer : Result T E) (line : Text) (b : S) (before after : Option (List ℕ)) → Says answer before after line
    → TellsAnswer answer before after (Replies line b) b
replied (Ok value) line b before after said = record {
  text = line;
  holds = record { after = refl; text_is = refl };
  written = said;
}
replied (Err error) line b before after said =
    part_so (λ (text : Text). text ≡ line) (Reaches (Replies line b)) before after
    (λ text same. inr (b, record { after = refl; text_is = same })) said

pub changed : {T E : Type 0} (answer : Result T E) (change : Session → Session) (a b : Session) (before after : Option (List ℕ))
    → b ≡ change a → Says answer before after ok_line → TellsAnswer answer before after (Changes change a) b
changed answer change a b before after same said =
    subst (λ (s : Session). TellsAnswer answer before after (Changes change a) s) (sym same)
    (replied answer ok_line (change a) before after said)

pub fetched : {X T E : Type 0} (answer : Result T E) (with : List X → Session) (left : List X) (line : Text)
    (before after : Option (List ℕ)) → OnOk answer (left ≡ []) → Says answer before after line
    → TellsAnswer answer before after (Replies line (with [])) (with left)
fetched (Ok value) with left line before after none said = record {
  text = line;
  holds = record { after = ap with none; text_is = refl };
  written = said;
}
fetched {X} (Err error) with left line before after none said = replied {T = X} (Err error) line (with []) before after said

pub lifted : {T E : Type 0} (answer : Result T E) (Answers : Session → Session → Text → Type 0) (a : Server) (b : Session)
    (before after : Option (List ℕ)) → TellsAnswer answer before after (Answers a.session) b
    → TellsAnswer answer before after (OnSession Answers a) (record a { session = b })
lifted answer Answers a b before after tells =
    answer_so answer (Answers a.session) (OnSession Answers a) (λ (s : Session). record a { session = s }) b before after
    (λ s text answers. record { answers = answers; after = refl }) tells

-- Something was played and told. A complete answer is the text of what was told, and then the line of the answer.
module _ (Happens : PlayedAdapter → PlayedAdapter → List Told → Type 0) (said : Text) (a : Session) (device : PlayedAdapter)
    (told : List Told)
    (happens : Happens a.device device told) (line : Text) (Answers : Session → Text → Type 0) (f : Session → Session)
    (so : (b : Session) (text : Text) → Played Happens said a b text → Answers (f b) (text ++ line)) where
  -- the session after all that was told
  abbrev last : Session
  last = record a { device = device; kept = kept_after told a.kept }

  abbrev written_text : Text
  written_text = text_of a.kept said told

  whole : Answers (f last) (written_text ++ line)
  whole = so last written_text (record { told = told; happens = happens; after = refl; text_is = refl })

  tells_answer : {T E : Type 0} (result : Result T E) (kept : Kept) (before after : Option (List ℕ))
      → Says result before after (written_text ++ line) × OnOk result (kept ≡ kept_after told a.kept)
      → TellsAnswer result before after Answers (f (record a { device = device; kept = kept }))
  tells_answer (Ok value) kept before after ended = record {
    text = written_text ++ line;
    holds = so (record a { device = device; kept = kept }) written_text (record {
      told = told;
      happens = happens;
      after = ap (λ (k : Kept). record a { device = device; kept = k }) ended.1;
      text_is = refl;
    });
    written = ended.0;
  }
  tells_answer (Err error) kept before after ended =
      part_so (λ (t : Text). t ≡ written_text ++ line) (Reaches Answers) before after
      (λ text same. inr (f last, subst (λ (t : Text). Answers (f last) t) (sym same) whole)) ended.0

  pub answered : {T : Type 0} (result : Result T AnswerError) (said' : Text) (kept : Kept) (stop : Option AnswerError)
      (before now after : Option (List ℕ)) → Heard said said' a.kept kept None stop before now told → Ends stop result now after line
      → TellsAnswer result before after Answers (f (record a { device = device; kept = kept }))
  answered result said' kept stop before now after heard ends =
      tells_answer result kept before after
      (ended result said said' a.kept kept stop before now after told line heard ends)

  pub unsaid : {T : Type 0} (result : Result T AnswerError) (said' : Text) (kept : Kept) (stop : Option AnswerError) (b : Session)
      (before now after : Option (List ℕ)) → Heard said said' a.kept kept None stop before now told → IsErr result × Keeps now after
      → TellsAnswer result before after Answers b
  unsaid (Ok value) said' kept stop b before now after heard none = absurd (cc)
  unsaid (Err error) said' kept stop b before now after heard none =
      part_so (λ (t : Text). t ≡ written_text ++ line) (Reaches Answers) before after
      (λ text same. inr (f last, subst (λ (t : Text). Answers (f last) t) (sym same) whole))
      (unended stop before now after written_text line heard.wrote none.1)
