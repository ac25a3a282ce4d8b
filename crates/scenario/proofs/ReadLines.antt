-- The loop that reads a text line by line.
use borrow.Author.Count.{below_more}
use Rattle.std.proofs.Common.{◌≡◌, ◌∙◌, ◌+◌, ◌-◌, ◌<◌, ◌≤◌, ℕ, List, [], ◌∷◌}
use Rattle.std.proofs.Common.{length, get_or, take, drop, add-zero, ap, get_or-drop, length-drop, sym, subst, refl, arith}
use Rattle.std.proofs.lemmas.List.{drop-drop, drop_all, take_all}
use Rattle.std.proofs.lemmas.List.Sums.{fold_more}
use Rattle.std.specs.Str.Lines.{lines}
use Rattle.scenario.specs.Answers.{AreGood, IsFaultyLine, IsGoodLine, IsScenarioRead, IsRefused, IsRefusedAt, after_words, said_by}
use Rattle.scenario.specs.SoFar.{SoFar, nothing_read}
use Rattle.scenario.specs.Words.{Text, word, words_of}
use Rattle.scenario.specs.Stops.{IfFault, refusal_at}
use Rattle.scenario.specs.declared.refusal.Fault.{Fault}
use Rattle.scenario.specs.declared.refusal.Stop.{Stop}
use Rattle.scenario.specs.declared.refusal.Stop.TheVariants as stop

-- The bytes before `start` are the first `count` lines of the text. All these lines are valid or skipped, and `said`
-- contains their hosts, commands and traces.
pub record IsReadUpTo (text : Text) (start count : ℕ) (said : SoFar) : Type 0 where
  pub within : start ≤ length text
  pub number : count ≤ start
  pub left : drop count (lines text) ≡ lines (drop start text)
  pub good : AreGood count (lines text)
  pub same : said ≡ said_by (take count (lines text))

module _ (all : List Text) (n : ℕ) (one : Text) (rest : List Text) (left : drop n all ≡ one ∷ rest) where
  there : n < length all
  there = omega (arith, length-drop n all, ap length left)

  here : get_or all n [] ≡ one
  here = sym (ap (λ k. get_or all k []) (add-zero n)) ∙ sym (get_or-drop n all 0 []) ∙ ap (λ (some : List Text). get_or some 0 []) left

  behind : drop (n + 1) all ≡ rest
  behind = sym (drop-drop 1 n all) ∙ ap (drop 1) left

pub read_none : (text : Text) (said : SoFar) → said ≡ nothing_read → IsReadUpTo text 0 0 said
read_none text said same =
    record { within = omega arith; number = omega arith; left = refl; good = λ k below. absurd (omega arith); same = same }

pub read_more : (text : Text) (start count taken : ℕ) (said after : SoFar) (bytes rest : Text) → IsReadUpTo text start count said
    → rest ≡ drop start text → lines rest ≡ bytes ∷ lines (drop taken rest) → 0 < taken → taken ≤ length rest
    → IsGoodLine said bytes → after ≡ after_words said (words_of bytes) → IsReadUpTo text (start + taken) (count + 1) after
read_more text start count taken said after bytes rest before same first some most good new =
    let all = lines text in
    let next : drop count all ≡ bytes ∷ lines (drop taken rest) = before.left ∙ ap lines (sym same) ∙ first in
    let place = there all count bytes (lines (drop taken rest)) next in
    let found = here all count bytes (lines (drop taken rest)) next in
    record {
      within = omega (arith, length-drop start text, ap length same, before.within);
      number = omega (arith, before.number);
      left = behind all count bytes (lines (drop taken rest)) next
          ∙ ap (λ (tail : Text). lines (drop taken tail)) same ∙ ap lines (drop-drop taken start text);
      good = below_more (λ k. IsGoodLine (said_by (take k all)) (word k all)) count before.good
          (subst (λ (one : Text). IsGoodLine (said_by (take count all)) one) (sym found)
          (subst (λ (front : SoFar). IsGoodLine front bytes) before.same good));
      same = new ∙ ap (λ (front : SoFar). after_words front (words_of bytes)) before.same
          ∙ ap (λ (one : Text). after_words (said_by (take count all)) (words_of one)) (sym found)
          ∙ sym (fold_more (λ front line. after_words front (words_of line)) nothing_read all count [] place);
    }

pub read_all : (text : Text) (start count : ℕ) (said : SoFar) → IsReadUpTo text start count said → length text ≤ start
    → IsScenarioRead text said
read_all text start count said before end =
    let none : drop count (lines text) ≡ [] = before.left ∙ ap lines (drop_all start text end) in
    let short : length (lines text) ≤ count = omega (arith, length-drop count (lines text), ap length none) in
    record {
      good = λ k below. before.good k (omega arith);
      said = before.same ∙ ap said_by (take_all count (lines text) short);
    }

pub read_fault : (text : Text) (start count taken : ℕ) (said : SoFar) (bytes rest : Text) (one : Fault) → IsReadUpTo text start count said
    → rest ≡ drop start text → lines rest ≡ bytes ∷ lines (drop taken rest) → IsFaultyLine said bytes one → IsRefusedAt text (count + 1) one
read_fault text start count taken said bytes rest one before same first faulty =
    let all = lines text in
    let next : drop count all ≡ bytes ∷ lines (drop taken rest) = before.left ∙ ap lines (sym same) ∙ first in
    let place = there all count bytes (lines (drop taken rest)) next in
    let found = here all count bytes (lines (drop taken rest)) next in
    let back : count ≡ count + 1 - 1 = omega arith in
    record {
      least = omega arith;
      there = omega (arith, place);
      good = λ k below. before.good k (omega arith);
      faulty = subst (λ k. IsFaultyLine (said_by (take k all)) (word k all) one) back
          (subst (λ (line : Text). IsFaultyLine (said_by (take count all)) line one) (sym found)
          (subst (λ (front : SoFar). IsFaultyLine front bytes one) before.same faulty));
    }

pub read_stop : (text : Text) (start count taken : ℕ) (said : SoFar) (bytes rest : Text) (stopped : Stop) → IsReadUpTo text start count said
    → rest ≡ drop start text → lines rest ≡ bytes ∷ lines (drop taken rest) → IfFault stopped (IsFaultyLine said bytes)
    → IsRefused text (refusal_at (count + 1) stopped)
read_stop text start count taken said bytes rest stop.Memory before same first faulty = tt
read_stop text start count taken said bytes rest (stop.Fault one) before same first faulty =
    read_fault text start count taken said bytes rest one before same first faulty
