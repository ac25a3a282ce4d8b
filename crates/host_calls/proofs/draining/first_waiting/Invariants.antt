use Rattle.std.proofs.Common.{◌≡◌, ◌<◌, [], ℕ}
use Rattle.packet_socket.specs.HostState.{queue_at}
use Rattle.host_calls.proofs.draining.first_waiting.Given as goal

-- no frame waits for the sockets before this one
abbrev pub invariant-loop-socket : goal.invariant-loop-socket
invariant-loop-socket l = (k : ℕ) → k < l.socket → queue_at l.host.queues k ≡ []
