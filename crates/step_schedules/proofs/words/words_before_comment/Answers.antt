use Rattle.std.proofs.Common.{◌≡◌, ◌∙◌, ◌<◌, ℕ, Bool, Bor, List, [], ap, arith, get_or, length, sym, true}
use Rattle.std.proofs.lemmas.List.{get_or-map, length-map}
use Rattle.std.proofs.lemmas.List.Sums.{prefix_len_is}
use borrow.Author.Count.{below_more}
use Rattle.step_schedules.specs.Words.{Text, is_no_comment, texts}
use Rattle.step_schedules.proofs.words.words_before_comment.Goals as goal

said_at : (words : List (Bor Text)) (k : ℕ) (w : Bor Text) (said : Bool) → k < length words → said ≡ is_no_comment (get_or words k w).now
    → is_no_comment (get_or (texts words) k []) ≡ said
said_at words k w said below test = ap is_no_comment (get_or-map (λ (w : Bor Text). w.now) words k w [] below) ∙ sym test

pub loop-count-preserved : goal.loop-count-preserved
loop-count-preserved c =
    let words = c.args.words.now in
    let k = c.loop-count.count in
    record {
      within = omega arith;
      said = below_more (λ (k : ℕ). is_no_comment (get_or (texts words) k []) ≡ true) k c.loop-count.invariant.said
          (said_at words k _ _ c.loop-count-test.true c.is_no_comment.ensures ∙ c.if-is_no_comment.true);
    }

pub returns-after-loop-count : goal.returns-after-loop-count
returns-after-loop-count c =
    sym (prefix_len_is is_no_comment (texts c.args.words.now) c.loop-count.count [] (omega (arith, length-map {A = Bor Text} {B = Text}))
    c.loop-count.invariant.said (λ below. absurd (omega (arith, length-map {A = Bor Text} {B = Text}))))

pub returns-else-is_no_comment : goal.returns-else-is_no_comment
returns-else-is_no_comment c =
    sym (prefix_len_is is_no_comment (texts c.args.words.now) c.loop-count.count [] (omega (arith, length-map {A = Bor Text} {B = Text}))
    c.loop-count.invariant.said (λ below. said_at _ _ _ _ c.loop-count-test.true c.is_no_comment.ensures ∙ c.if-is_no_comment.false))
