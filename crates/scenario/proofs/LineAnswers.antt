-- `IsLineAnswer`, by the result of reading the words of the line.
use Rattle.std.proofs.Common.{◌≡◌, ◌∙◌, ◌<◌, ◌≤◌, false, true, cond, Bor, List, [], ◌∷◌}
use Rattle.std.proofs.Common.{Option, Some, None, Result, Ok, Err, length, ap, arith, sym, subst}
use Rattle.std.proofs.lemmas.Bool.{false≢true}
use Rattle.std.specs.Option.{IsSomeAnd}
use Rattle.std.specs.Str.{IsUtf8}
use Rattle.scenario.specs.Answers.{IsAnswerToLine, IsFaulty, IsGood, IsLineAnswer, IsWordsAnswer, after_kind, is_skipped}
use Rattle.scenario.specs.Kinds.{line_kind_named}
use Rattle.scenario.specs.SoFar.{SoFar}
use Rattle.scenario.specs.Words.{Text, texts, word, words_of}
use Rattle.scenario.specs.declared.line_kind.LineKind.{LineKind}
use Rattle.scenario.specs.declared.refusal.Fault.TheVariants as fault
use Rattle.scenario.specs.declared.refusal.Stop.{Stop}
use Rattle.scenario.specs.declared.refusal.Stop.TheVariants as stop

module _ (before after : SoFar) (words : List Text) (kind : LineKind) (says : is_skipped words ≡ false)
    (named : line_kind_named (word 0 words) ≡ Some kind) where
  some-and : (P : LineKind → Type 0) → P kind → IsSomeAnd (line_kind_named (word 0 words)) P
  some-and P h = subst (λ (found : Option LineKind). IsSomeAnd found P) (sym named) h

  pub words-said : (result : Result (Unit {0}) Stop) → IsAnswerToLine kind before words result after
      → IsWordsAnswer before words result after
  words-said (Ok u) h = (
    λ same. some-and (λ one. IsGood one before words) h.0,
    h.1 ∙ sym (ap (λ b. cond b before (after_kind (line_kind_named (word 0 words)) before words)) says
        ∙ ap (λ (found : Option LineKind). after_kind found before words) named),
  )
  words-said (Err stop.Memory) h = tt
  words-said (Err (stop.Fault fault.Word)) h = absurd h
  words-said (Err (stop.Fault fault.Count)) h = (says, some-and (λ one. IsFaulty one before words fault.Count) h)
  words-said (Err (stop.Fault fault.Value)) h = (says, some-and (λ one. IsFaulty one before words fault.Value) h)
  words-said (Err (stop.Fault fault.Name)) h = (says, some-and (λ one. IsFaulty one before words fault.Name) h)
  words-said (Err (stop.Fault fault.Order)) h = (says, some-and (λ one. IsFaulty one before words fault.Order) h)
  words-said (Err (stop.Fault fault.Long)) h = absurd h
  words-said (Err (stop.Fault fault.Text)) h = absurd h

pub skipped-said : (before : SoFar) (words : List Text) → is_skipped words ≡ true → IsWordsAnswer before words (Ok tt) before
skipped-said before words skips = (
  λ same. absurd (false≢true (sym same ∙ skips)),
  sym (ap (λ b. cond b before (after_kind (line_kind_named (word 0 words)) before words)) skips),
)

pub words-there : (words : List (Bor Text)) → is_skipped (texts words) ≡ false → 0 < length words
words-there [] says = absurd (false≢true (sym says))
words-there (first ∷ words) says = omega arith

no-fault : (found : Option LineKind) → IsSomeAnd found (λ kind. ⊥) → ⊥
no-fault (Some kind) h = h
no-fault None h = h

module _ (before after : SoFar) (line : Text) (size : length line ≤ 8192) (text : IsUtf8 line) where
  pub line-said : (result : Result (Unit {0}) Stop) → IsWordsAnswer before (words_of line) result after
      → IsLineAnswer before line result after
  line-said (Ok u) h = (record { readable = record { size = size; text = text }; said = h.0 }, h.1)
  line-said (Err stop.Memory) h = tt
  line-said (Err (stop.Fault fault.Word)) h = (record { size = size; text = text }, h.0, h.1)
  line-said (Err (stop.Fault fault.Count)) h = (record { size = size; text = text }, h.0, h.1)
  line-said (Err (stop.Fault fault.Value)) h = (record { size = size; text = text }, h.0, h.1)
  line-said (Err (stop.Fault fault.Name)) h = (record { size = size; text = text }, h.0, h.1)
  line-said (Err (stop.Fault fault.Order)) h = (record { size = size; text = text }, h.0, h.1)
  line-said (Err (stop.Fault fault.Long)) h = absurd (no-fault (line_kind_named (word 0 (words_of line))) h.1)
  line-said (Err (stop.Fault fault.Text)) h = absurd (no-fault (line_kind_named (word 0 (words_of line))) h.1)
