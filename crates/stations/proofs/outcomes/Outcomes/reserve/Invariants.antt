use Rattle.std.proofs.Common.{◌≡◌, ◌-◌, ◌+◌, ◌≤◌, length, vec_capacity}
use Rattle.stations.proofs.outcomes.Outcomes.reserve.Given as goal

-- the list doesn't change, and has a place for each spare frame and for the further frames that are wanted
abbrev pub invariant-loop-alloc : goal.invariant-loop-alloc
invariant-loop-alloc l =
    (l.self-inside.list.items ≡ l.fn.self.list)
    × (length l.self-inside.list.items + l.more ≤ vec_capacity l.self-inside.list)
    × (length l.self-inside.list.items + length l.self-inside.spare.items ≤ vec_capacity l.self-inside.list)

abbrev pub decreases-loop-alloc : goal.decreases-loop-alloc
decreases-loop-alloc l = l.more - length l.self-inside.spare.items
