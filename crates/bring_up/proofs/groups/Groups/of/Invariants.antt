use Rattle.std.proofs.Common.{◌≤◌, length, take}
use Rattle.bring_up.specs.Groups.{AreNamedOnce}
use Rattle.bring_up.proofs.groups.Groups.of.Given as goal

abbrev pub invariant-loop-group : goal.invariant-loop-group
invariant-loop-group l = AreNamedOnce (take l.group-index l.named) l.groups × (length l.groups ≤ l.group-index)
