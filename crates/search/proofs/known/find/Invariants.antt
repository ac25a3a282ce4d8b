use Rattle.std.proofs.Common.{◌≡◌, ◌<◌, length}
use Rattle.search.proofs.known.find.Given as goal

abbrev pub invariant-loop : goal.invariant-loop
invariant-loop l = record { here : l.at < l.size; size : l.size ≡ length l.known }
