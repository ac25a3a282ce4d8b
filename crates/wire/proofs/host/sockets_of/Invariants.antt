use Rattle.std.proofs.Common.{◌≡◌, take}
use Rattle.wire.proofs.host.sockets_of.Given as goal

-- the table contains the sockets so far
abbrev pub invariant-loop-socket : goal.invariant-loop-socket
invariant-loop-socket l = l.table.items ≡ take l.socket-index l.sockets
