use Rattle.std.proofs.Common.{ℕ}
use Rattle.search.specs.Searches.{AreTrueEntries}
use Rattle.search.specs.Tests.{Test}
use Rattle.search.proofs.known.grow.Given as goal

abbrev pub invariant-loop-entry : goal.invariant-loop-entry
invariant-loop-entry l =
    (test : Test) (cost : ℕ) → AreTrueEntries test cost l.from → AreTrueEntries test cost l.initial.known → AreTrueEntries test cost l.known
