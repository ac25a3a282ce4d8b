-- No line is both good and faulty, and no text is both read and refused.
use native.Mathlib.Decide.{dec_le}
use Rattle.std.proofs.Common.{◌≡◌, ◌-◌, ℕ, Option, Some, None, take, refl, subst, arith}
use Rattle.std.specs.Option.{IsSomeAnd}
use Rattle.std.specs.Str.Lines.{lines}
use Rattle.scenario.specs.Answers.{IsFaulty, IsFaultyLine, IsGood, IsGoodLine, IsScenarioRead, IsRefusedAt, said_by}
use Rattle.scenario.specs.Kinds.{line_kind_named}
use Rattle.scenario.specs.SoFar.{SoFar}
use Rattle.scenario.specs.Words.{Text, word, words_of}
use Rattle.scenario.specs.declared.line_kind.LineKind.{LineKind}
use Rattle.scenario.specs.declared.refusal.Fault.{Fault}
use Rattle.scenario.specs.declared.refusal.Fault.TheVariants as fault

both : (found : Option LineKind) (P Q : LineKind → Type 0) → ((kind : LineKind) → P kind → Q kind → ⊥)
    → IsSomeAnd found P → IsSomeAnd found Q → ⊥
both (Some kind) P Q never p q = never kind p q
both None P Q never p q = p

no-kind : (found : Option LineKind) (P : LineKind → Type 0) → found ≡ None → IsSomeAnd found P → ⊥
no-kind found P none p = subst (λ (one : Option LineKind). IsSomeAnd one P) none p

good-or-faulty : (before : SoFar) (line : Text) (one : Fault) → IsGoodLine before line → ¬ IsFaultyLine before line one
good-or-faulty before line fault.Long good f = omega (arith, good.readable.size, f)
good-or-faulty before line fault.Text good f = f.1 good.readable.text
good-or-faulty before line fault.Word good f =
    no-kind (line_kind_named (word 0 (words_of line))) (λ kind. IsGood kind before (words_of line)) f.2 (good.said f.1)
good-or-faulty before line fault.Count good f =
    both (line_kind_named (word 0 (words_of line))) (λ kind. IsGood kind before (words_of line))
    (λ kind. IsFaulty kind before (words_of line) fault.Count) (λ kind good f. f good.count) (good.said f.1) f.2
good-or-faulty before line fault.Value good f =
    both (line_kind_named (word 0 (words_of line))) (λ kind. IsGood kind before (words_of line))
    (λ kind. IsFaulty kind before (words_of line) fault.Value) (λ kind good f. f.1 good.values) (good.said f.1) f.2
good-or-faulty before line fault.Name good f =
    both (line_kind_named (word 0 (words_of line))) (λ kind. IsGood kind before (words_of line))
    (λ kind. IsFaulty kind before (words_of line) fault.Name) (λ kind good f. f.2 good.names) (good.said f.1) f.2
good-or-faulty before line fault.Order good f =
    both (line_kind_named (word 0 (words_of line))) (λ kind. IsGood kind before (words_of line))
    (λ kind. IsFaulty kind before (words_of line) fault.Order) (λ kind good f. f.3 good.order) (good.said f.1) f.2

one-fault : (before : SoFar) (line : Text) (one two : Fault) → IsFaultyLine before line one → IsFaultyLine before line two → one ≡ two
one-fault before line fault.Word fault.Word f g = refl
one-fault before line fault.Word fault.Count f g =
    absurd (no-kind (line_kind_named (word 0 (words_of line))) (λ kind. IsFaulty kind before (words_of line) fault.Count) f.2 g.2)
one-fault before line fault.Word fault.Value f g =
    absurd (no-kind (line_kind_named (word 0 (words_of line))) (λ kind. IsFaulty kind before (words_of line) fault.Value) f.2 g.2)
one-fault before line fault.Word fault.Name f g =
    absurd (no-kind (line_kind_named (word 0 (words_of line))) (λ kind. IsFaulty kind before (words_of line) fault.Name) f.2 g.2)
one-fault before line fault.Word fault.Order f g =
    absurd (no-kind (line_kind_named (word 0 (words_of line))) (λ kind. IsFaulty kind before (words_of line) fault.Order) f.2 g.2)
one-fault before line fault.Word fault.Long f g = absurd (omega (arith, g, f.0.size))
one-fault before line fault.Word fault.Text f g = absurd (g.1 f.0.text)
one-fault before line fault.Count fault.Word f g =
    absurd (no-kind (line_kind_named (word 0 (words_of line))) (λ kind. IsFaulty kind before (words_of line) fault.Count) g.2 f.2)
one-fault before line fault.Count fault.Count f g = refl
one-fault before line fault.Count fault.Value f g =
    absurd (both (line_kind_named (word 0 (words_of line))) (λ kind. IsFaulty kind before (words_of line) fault.Count)
    (λ kind. IsFaulty kind before (words_of line) fault.Value) (λ kind p q. p q.0) f.2 g.2)
one-fault before line fault.Count fault.Name f g =
    absurd (both (line_kind_named (word 0 (words_of line))) (λ kind. IsFaulty kind before (words_of line) fault.Count)
    (λ kind. IsFaulty kind before (words_of line) fault.Name) (λ kind p q. p q.0) f.2 g.2)
one-fault before line fault.Count fault.Order f g =
    absurd (both (line_kind_named (word 0 (words_of line))) (λ kind. IsFaulty kind before (words_of line) fault.Count)
    (λ kind. IsFaulty kind before (words_of line) fault.Order) (λ kind p q. p q.0) f.2 g.2)
one-fault before line fault.Count fault.Long f g = absurd (omega (arith, g, f.0.size))
one-fault before line fault.Count fault.Text f g = absurd (g.1 f.0.text)
one-fault before line fault.Value fault.Word f g =
    absurd (no-kind (line_kind_named (word 0 (words_of line))) (λ kind. IsFaulty kind before (words_of line) fault.Value) g.2 f.2)
one-fault before line fault.Value fault.Count f g =
    absurd (both (line_kind_named (word 0 (words_of line))) (λ kind. IsFaulty kind before (words_of line) fault.Value)
    (λ kind. IsFaulty kind before (words_of line) fault.Count) (λ kind p q. q p.0) f.2 g.2)
one-fault before line fault.Value fault.Value f g = refl
one-fault before line fault.Value fault.Name f g =
    absurd (both (line_kind_named (word 0 (words_of line))) (λ kind. IsFaulty kind before (words_of line) fault.Value)
    (λ kind. IsFaulty kind before (words_of line) fault.Name) (λ kind p q. p.1 q.1) f.2 g.2)
one-fault before line fault.Value fault.Order f g =
    absurd (both (line_kind_named (word 0 (words_of line))) (λ kind. IsFaulty kind before (words_of line) fault.Value)
    (λ kind. IsFaulty kind before (words_of line) fault.Order) (λ kind p q. p.1 q.1) f.2 g.2)
one-fault before line fault.Value fault.Long f g = absurd (omega (arith, g, f.0.size))
one-fault before line fault.Value fault.Text f g = absurd (g.1 f.0.text)
one-fault before line fault.Name fault.Word f g =
    absurd (no-kind (line_kind_named (word 0 (words_of line))) (λ kind. IsFaulty kind before (words_of line) fault.Name) g.2 f.2)
one-fault before line fault.Name fault.Count f g =
    absurd (both (line_kind_named (word 0 (words_of line))) (λ kind. IsFaulty kind before (words_of line) fault.Name)
    (λ kind. IsFaulty kind before (words_of line) fault.Count) (λ kind p q. q p.0) f.2 g.2)
one-fault before line fault.Name fault.Value f g =
    absurd (both (line_kind_named (word 0 (words_of line))) (λ kind. IsFaulty kind before (words_of line) fault.Name)
    (λ kind. IsFaulty kind before (words_of line) fault.Value) (λ kind p q. q.1 p.1) f.2 g.2)
one-fault before line fault.Name fault.Name f g = refl
one-fault before line fault.Name fault.Order f g =
    absurd (both (line_kind_named (word 0 (words_of line))) (λ kind. IsFaulty kind before (words_of line) fault.Name)
    (λ kind. IsFaulty kind before (words_of line) fault.Order) (λ kind p q. p.2 q.2) f.2 g.2)
one-fault before line fault.Name fault.Long f g = absurd (omega (arith, g, f.0.size))
one-fault before line fault.Name fault.Text f g = absurd (g.1 f.0.text)
one-fault before line fault.Order fault.Word f g =
    absurd (no-kind (line_kind_named (word 0 (words_of line))) (λ kind. IsFaulty kind before (words_of line) fault.Order) g.2 f.2)
one-fault before line fault.Order fault.Count f g =
    absurd (both (line_kind_named (word 0 (words_of line))) (λ kind. IsFaulty kind before (words_of line) fault.Order)
    (λ kind. IsFaulty kind before (words_of line) fault.Count) (λ kind p q. q p.0) f.2 g.2)
one-fault before line fault.Order fault.Value f g =
    absurd (both (line_kind_named (word 0 (words_of line))) (λ kind. IsFaulty kind before (words_of line) fault.Order)
    (λ kind. IsFaulty kind before (words_of line) fault.Value) (λ kind p q. q.1 p.1) f.2 g.2)
one-fault before line fault.Order fault.Name f g =
    absurd (both (line_kind_named (word 0 (words_of line))) (λ kind. IsFaulty kind before (words_of line) fault.Order)
    (λ kind. IsFaulty kind before (words_of line) fault.Name) (λ kind p q. q.2 p.2) f.2 g.2)
one-fault before line fault.Order fault.Order f g = refl
one-fault before line fault.Order fault.Long f g = absurd (omega (arith, g, f.0.size))
one-fault before line fault.Order fault.Text f g = absurd (g.1 f.0.text)
one-fault before line fault.Long fault.Word f g = absurd (omega (arith, f, g.0.size))
one-fault before line fault.Long fault.Count f g = absurd (omega (arith, f, g.0.size))
one-fault before line fault.Long fault.Value f g = absurd (omega (arith, f, g.0.size))
one-fault before line fault.Long fault.Name f g = absurd (omega (arith, f, g.0.size))
one-fault before line fault.Long fault.Order f g = absurd (omega (arith, f, g.0.size))
one-fault before line fault.Long fault.Long f g = refl
one-fault before line fault.Long fault.Text f g = absurd (omega (arith, f, g.0))
one-fault before line fault.Text fault.Word f g = absurd (f.1 g.0.text)
one-fault before line fault.Text fault.Count f g = absurd (f.1 g.0.text)
one-fault before line fault.Text fault.Value f g = absurd (f.1 g.0.text)
one-fault before line fault.Text fault.Name f g = absurd (f.1 g.0.text)
one-fault before line fault.Text fault.Order f g = absurd (f.1 g.0.text)
one-fault before line fault.Text fault.Long f g = absurd (omega (arith, g, f.0))
one-fault before line fault.Text fault.Text f g = refl

pub read-or-refused : (text : Text) (read : SoFar) (line : ℕ) (one : Fault) → IsScenarioRead text read → ¬ IsRefusedAt text line one
read-or-refused text read line one good refused =
    good-or-faulty (said_by (take (line - 1) (lines text))) (word (line - 1) (lines text)) one
    (good.good (line - 1) (omega (arith, refused.least, refused.there))) refused.faulty

pub refused-once : (text : Text) (line other : ℕ) (one two : Fault) → IsRefusedAt text line one → IsRefusedAt text other two
    → (line ≡ other) × (one ≡ two)
refused-once text line other one two first second =
    elim (dec_le other line) [
      | no far ↦ absurd (good-or-faulty (said_by (take (line - 1) (lines text))) (word (line - 1) (lines text)) one
          (second.good (line - 1) (omega (arith, far, first.least))) first.faulty)
      | yes near ↦ elim (dec_le line other) [
        | no far ↦ absurd (good-or-faulty (said_by (take (other - 1) (lines text))) (word (other - 1) (lines text)) two
            (first.good (other - 1) (omega (arith, far, second.least))) second.faulty)
        | yes close ↦
            let same : line ≡ other = omega (arith, near, close) in (
              same,
              one-fault (said_by (take (other - 1) (lines text))) (word (other - 1) (lines text)) one two
                  (subst (λ n. IsFaultyLine (said_by (take (n - 1) (lines text))) (word (n - 1) (lines text)) one) same first.faulty)
                  second.faulty,
            )
      ]
    ]
