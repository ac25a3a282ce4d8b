use Rattle.stations.specs.LogReaders.{OthersHaveRoom}
use Rattle.stations.proofs.wires.Wires.have_room.Given as goal

-- the other ends of the wire before this place have room
abbrev pub invariant-loop-number : goal.invariant-loop-number
invariant-loop-number l = OthersHaveRoom l.number l.sender l.wire l.ends
