use Rattle.std.proofs.Common.{take}
use Rattle.scenario.specs.Answers.{AreTicks}
use Rattle.scenario.specs.SoFar.{hosts_of}
use Rattle.scenario.specs.Words.{texts}
use Rattle.scenario.proofs.event_line.ticks_of.Given as goal

-- the words so far are read
abbrev pub invariant-loop-word : goal.invariant-loop-word
invariant-loop-word l = AreTicks (hosts_of l.hosts) (texts (take l.word-index l.words)) l.ticks.items
