use Rattle.std.proofs.Common.{◌≡◌, ◌<◌, ◌≤◌, ◌-◌, ℕ, [], get_or, length, true}
use Rattle.step_schedules.specs.Words.{is_no_comment, texts}
use Rattle.step_schedules.proofs.words.words_before_comment.Given as goal

abbrev pub invariant-loop-count : goal.invariant-loop-count
invariant-loop-count l = record {
  within : l.count ≤ length l.words;
  said : (k : ℕ) → k < l.count → is_no_comment (get_or (texts l.words) k []) ≡ true;
}

abbrev pub decreases-loop-count : goal.decreases-loop-count
decreases-loop-count l = length l.words - l.count
