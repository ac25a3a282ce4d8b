use Rattle.std.proofs.Common.{◌-◌, length}
use Rattle.scenario.specs.SoFar.{so_far}
use Rattle.scenario.proofs.ReadLines.{IsReadUpTo}
use Rattle.scenario.proofs.command.Scenario.read.Given as goal

-- the lines so far are read
abbrev pub invariant-loop-start : goal.invariant-loop-start
invariant-loop-start l = IsReadUpTo l.text l.start l.line (so_far l.scenario)

abbrev pub decreases-loop-start : goal.decreases-loop-start
decreases-loop-start l = length l.text - l.start
