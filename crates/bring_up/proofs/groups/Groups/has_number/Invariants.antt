use Rattle.std.proofs.Common.{◌≡◌, ◌<◌, ℕ, List}
use Rattle.std.specs.Prelude.{Some, slice_get}
use Rattle.bring_up.specs.Groups.{group_number_of}
use Rattle.bring_up.proofs.groups.Groups.has_number.Given as goal

abbrev pub invariant-loop-joined : goal.invariant-loop-joined
invariant-loop-joined l =
    (k : ℕ) (joined : List ℕ) → k < l.joined-index → slice_get l.self k ≡ Some joined → group_number_of joined ≡ group_number_of l.group → ⊥
