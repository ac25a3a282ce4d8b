use Rattle.std.proofs.Common.{◌≡◌, ◌≤◌, ◌++◌, drop, length}
use Rattle.server_output.specs.Order.{WritesText}
use Rattle.server_output.proofs.output.say.Given as goal

abbrev pub invariant-loop-turn : goal.invariant-loop-turn
invariant-loop-turn g l = record {
  said : WritesText (g.W.Write.contents l.initial.out) (g.W.Write.contents l.out) (λ part. l.text ≡ part ++ drop l.written l.text);
  few : l.written ≤ length l.text;
}
