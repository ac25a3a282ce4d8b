use Rattle.std.proofs.Common.{◌≡◌}
use Rattle.std.specs.List.{AllWithin}
use Rattle.search.proofs.search.begin.Given as goal

abbrev pub invariant-loop-entry : goal.invariant-loop-entry
invariant-loop-entry l = AllWithin (λ entry. entry.key.one ≡ 0) l.known 0 l.entry-index
