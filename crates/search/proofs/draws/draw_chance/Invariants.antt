use Rattle.std.proofs.Common.{◌≡◌, ℕ, true}
use Rattle.search.specs.Actions.{is_possible}
use Rattle.search.proofs.draws.draw_chance.Given as goal

abbrev pub invariant-loop-number : goal.invariant-loop-number
invariant-loop-number l =
    (number : ℕ) → is_possible l.left number ≡ true → is_possible l.initial.left number ≡ true
