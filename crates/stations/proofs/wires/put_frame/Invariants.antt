use Rattle.stations.specs.LogReaders.{with_waiting}
use Rattle.stations.proofs.ChangedItems.{Changed}
use Rattle.stations.proofs.wires.put_frame.Given as goal

-- the ends before this place have counted the frame
abbrev pub invariant-loop-number : goal.invariant-loop-number
invariant-loop-number l = Changed (with_waiting l.log l.sender) l.initial.ends l.ends l.number
