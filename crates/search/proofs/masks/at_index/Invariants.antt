use Rattle.std.proofs.Common.{◌≡◌, ◌≢◌, ◌<◌, ◌≤◌, ℕ, false, true}
use Rattle.search.specs.Actions.{is_possible, none}
use Rattle.search.proofs.masks.at_index.Given as goal

abbrev pub invariant-loop-number : goal.invariant-loop-number
invariant-loop-number l = record {
  most : l.skipped ≤ l.number;
  found : l.found ≢ none → is_possible l.mask l.found ≡ true;
  empty : l.found ≡ none → (number : ℕ) → number < l.number → is_possible l.mask number ≡ false;
}
