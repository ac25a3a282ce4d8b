use Rattle.std.proofs.Common.{◌≡◌, ◌≤◌, ◌++◌, ◌-◌, drop, length}
use Rattle.scenario.specs.HostOptions.{uses_in}
use Rattle.scenario.specs.Words.{texts}
use Rattle.scenario.proofs.host_use.uses_of.Given as goal

-- the uses so far, followed by those of the remaining words, are the uses of all words
abbrev pub invariant-loop-place : goal.invariant-loop-place
invariant-loop-place l = record {
  within : l.place ≤ length l.words;
  used : l.uses.items ++ uses_in (texts (drop l.place l.words)) ≡ uses_in (texts l.words);
}

abbrev pub decreases-loop-place : goal.decreases-loop-place
decreases-loop-place l = length l.words - l.place
