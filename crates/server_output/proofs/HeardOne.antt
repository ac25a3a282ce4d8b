-- The observer was told one thing: the text about it was written, or memory was refused before anything was written.
use Rattle.std.proofs.Common.{◌≡◌, ◌∷◌, [], ℕ, List, Option, Some, None, false, refl, subst, sym}
use Rattle.std.proofs.lemmas.List.{append-nil}
use Rattle.std.specs.Prelude.{Err, Ok, OnOk, Result}
use Rattle.std.specs.Result.{is_err, result_err}
use Rattle.access_names.specs.declared.engine_fault.EngineFault.{EngineFault}
use Rattle.adapter.specs.Outcomes.{FrameOutcome}
use Rattle.adapter.specs.model_types.step.StepKind.{StepKind}
use Rattle.played_adapter.specs.Told.{Stepped, Told}
use Rattle.server_output.specs.Order.{Says, WritesPart}
use Rattle.server_output.specs.Telling.{Heard, WroteText, kept_one, kept_with, text_of, told_text}
use Rattle.server_output.specs.Texts.{Text}
use Rattle.server_output.specs.declared.answer_error.AnswerError.{AnswerError}
use Rattle.server_output.specs.declared.kept.Kept.{Kept}
use Rattle.server_output.proofs.PartsWritten.{nothing_said}

pub heard_refused : (one : Told) (said said' : Text) (kept kept' : Kept) (stop : Option AnswerError) (before after : Option (List ℕ))
    (error : AnswerError) → said' ≡ said → after ≡ before → stop ≡ None
    → Heard said said' kept kept' stop (Some error) before after (one ∷ [])
heard_refused one said said' kept kept' (Some other) before after error same still running = absurd (cc)
heard_refused one said said' kept kept' None before after error same still running = record {
  said_is = same;
  wrote = subst (λ (now : Option (List ℕ)). WritesPart before now (text_of kept said (one ∷ []))) (sym still)
      (nothing_said (text_of kept said (one ∷ [])) before);
  kept_is = λ none. absurd (cc);
}

-- The error of a call that writes a text is the error that stops writing.
pub wrote_so : {T : Type 0} (result : Result T AnswerError) (was is : Option AnswerError) (before after : Option (List ℕ)) (text : Text)
    → was ≡ None → is ≡ result_err result → Says result before after text → WroteText was is before after text
wrote_so (Ok value) None None before after text running is_err says = says
wrote_so (Ok value) None (Some error) before after text running is_err says = absurd (cc)
wrote_so (Err error) None None before after text running is_err says = absurd (cc)
wrote_so (Err error) None (Some other) before after text running is_err says = says
wrote_so result (Some error) is before after text running is_err says = absurd (cc)

pub heard_said : {T : Type 0} (result : Result T AnswerError) (one : Told) (said : Text) (kept kept' : Kept) (was is : Option AnswerError)
    (before after : Option (List ℕ)) → was ≡ None → is ≡ result_err result
    → Says result before after (told_text kept.log kept.events said one) → kept' ≡ kept_one one kept
    → Heard said said kept kept' was is before after (one ∷ [])
heard_said result one said kept kept' was is before after running is_err says same = record {
  said_is = refl;
  wrote = subst (λ (text : Text). WroteText was is before after text) (sym (append-nil (told_text kept.log kept.events said one)))
      (wrote_so result was is before after (told_text kept.log kept.events said one) running is_err says);
  kept_is = λ none. same;
}

-- A step was told: the step's frame and fault were kept, and then the text about the step was written.
pub heard_step : {T U E : Type 0} (ran : Result U E) (result : Result T AnswerError) (kind : StepKind) (outcome : FrameOutcome)
    (fault : Option EngineFault) (said : Text) (kept kept' : Kept) (was is : Option AnswerError) (before after : Option (List ℕ))
    → is_err ran ≡ false → OnOk ran (kept' ≡ kept_with outcome fault kept) → was ≡ None → is ≡ result_err result
    → Says result before after (told_text kept'.log kept'.events said (Stepped kind outcome fault))
    → Heard said said kept kept' was is before after (Stepped kind outcome fault ∷ [])
heard_step (Ok value) result kind outcome fault said kept kept' was is before after ran_ok same running is_err says =
    heard_said result (Stepped kind outcome fault) said kept kept' was is before after running is_err
    (subst (λ (k : Kept). Says result before after (told_text k.log k.events said (Stepped kind outcome fault))) same says) same
heard_step (Err error) result kind outcome fault said kept kept' was is before after ran_ok same running is_err says = absurd (cc)
