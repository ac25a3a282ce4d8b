-- What was told, and then the line of an answer.
use Rattle.std.proofs.Common.{◌≡◌, ◌++◌, ◌∙◌, ℕ, List, Option, Some, None, ap, refl}
use Rattle.std.specs.Prelude.{Err, Ok, OnOk, Result}
use Rattle.std.specs.Io.KnownBytes.{Keeps}
use Rattle.played_adapter.specs.Told.{Told}
use Rattle.server_output.specs.Order.{Says, WritesPart}
use Rattle.server_output.specs.Telling.{Ends, Heard, WroteText, kept_after, text_of}
use Rattle.server_output.specs.TellingLaws.{part_kept}
use Rattle.server_output.specs.Texts.{Text}
use Rattle.server_output.specs.WritingLaws.{appends_kept, appends_then, part_then}
use Rattle.server_output.specs.declared.answer_error.AnswerError.{AnswerError}
use Rattle.server_output.specs.declared.kept.Kept.{Kept}

pub unended : (stop : Option AnswerError) (before now after : Option (List ℕ)) (text line : Text) → WroteText None stop before now text
    → Keeps now after → WritesPart before after (text ++ line)
unended None before now after text line wrote kept = record {
  text = text;
  holds = record { text = text ++ line; rest = line; holds = refl; text_is = refl };
  written = appends_kept before now after text wrote kept;
}
unended (Some error) before now after text line wrote kept = part_kept before now after text line wrote kept

pub ended : {T : Type 0} (result : Result T AnswerError) (said said' : Text) (kept kept' : Kept) (stop : Option AnswerError)
    (before now after : Option (List ℕ)) (told : List Told) (line : Text) → Heard said said' kept kept' None stop before now told
    → Ends stop result now after line
    → Says result before after (text_of kept said told ++ line) × OnOk result (kept' ≡ kept_after told kept)
ended (Ok value) said said' kept kept' None before now after told line heard ends =
    (appends_then before now after (text_of kept said told) line heard.wrote ends, heard.kept_is refl)
ended (Ok value) said said' kept kept' (Some error) before now after told line heard ends = absurd (cc)
ended (Err error) said said' kept kept' None before now after told line heard ends =
    let all = text_of kept said told in (
      part_then (λ (t : Text). t ≡ all) (λ (t : Text). t ≡ line) (λ (t : Text). t ≡ all ++ line) before now after
          (λ f l same other. ap (λ (t : Text). t ++ l) same ∙ ap (λ (t : Text). all ++ t) other)
          (record { text = all; holds = refl; written = heard.wrote }) ends,
      tt,
    )
ended (Err error) said said' kept kept' (Some other) before now after told line heard ends =
    (unended (Some other) before now after (text_of kept said told) line heard.wrote ends.1, tt)
