use Rattle.std.proofs.Common.{◌≡◌}
use Rattle.search.proofs.shrinking.seek_join.Given as goal

abbrev pub invariant-loop-at : goal.invariant-loop-at
invariant-loop-at l = record {
  step : l.at ≡ l.initial.shrink.at → l.step ≡ l.first;
  same : l.shrink ≡ l.initial.shrink;
}
