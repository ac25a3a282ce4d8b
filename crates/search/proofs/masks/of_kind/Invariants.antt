use Rattle.search.proofs.Bits.{Kept}
use Rattle.search.proofs.masks.of_kind.Given as goal

abbrev pub invariant-loop-number : goal.invariant-loop-number
invariant-loop-number l = Kept l.actions l.mask l.kind l.found l.number
