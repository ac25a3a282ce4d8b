use Rattle.search.proofs.Going.{Best}
use Rattle.search.proofs.priorities.first_ready.Given as goal

abbrev pub invariant-loop-number : goal.invariant-loop-number
invariant-loop-number l = Best l.priorities l.actions l.possible l.count l.number l.first
