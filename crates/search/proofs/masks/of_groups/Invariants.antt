use Rattle.std.proofs.Common.{◌≡◌, ℕ, true}
use Rattle.search.specs.Actions.{action_in, is_possible}
use Rattle.search.proofs.masks.of_groups.Given as goal

abbrev pub invariant-loop-number : goal.invariant-loop-number
invariant-loop-number l =
    (number : ℕ) → is_possible l.found number ≡ true
    → (is_possible l.mask number ≡ true) × (is_possible l.groups (action_in l.actions number).group ≡ true)
