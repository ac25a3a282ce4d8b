use Rattle.std.proofs.Common.{◌≡◌, ◌++◌, drop, flat_map}
use Rattle.server_output.specs.Texts.{fault_words}
use Rattle.server_output.proofs.faults.Faults.words.Given as goal

-- the text so far and the words of the remaining faults are the words of all faults together
abbrev pub invariant-loop-fault : goal.invariant-loop-fault
invariant-loop-fault l =
    l.text.items ++ flat_map fault_words (drop l.fault-index l.fault-items) ≡ flat_map fault_words l.self
