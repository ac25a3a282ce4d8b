use Rattle.std.proofs.Common.{◌≡◌, ◌<◌, ◌≤◌}
use Rattle.search.specs.Draws.{AreFewer}
use Rattle.search.proofs.draws.draw_next.Given as goal

abbrev pub invariant-loop-phase : goal.invariant-loop-phase
invariant-loop-phase l = record {
  settings : l.draw.settings ≡ l.initial.draw.settings;
  fewer : AreFewer l.initial.draw.left l.draw.left;
  burst : l.draw.burst ≡ l.initial.draw.burst;
  priorities : l.draw.phase < 2 → l.draw.priorities ≡ l.initial.draw.priorities;
  later : l._phase ≤ l.draw.phase;
  first : 4 ≤ l.initial.draw.phase → l.draw ≡ l.initial.draw;
}
