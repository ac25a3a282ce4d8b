use Rattle.std.proofs.Common.{◌≡◌, ℕ, true}
use Rattle.search.specs.Actions.{is_possible}
use Rattle.search.proofs.draws.draw_uniform.Given as goal

abbrev pub invariant-loop-turn : goal.invariant-loop-turn
invariant-loop-turn l =
    (number : ℕ) → is_possible l.left number ≡ true → is_possible l.initial.left number ≡ true
