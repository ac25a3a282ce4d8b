use Rattle.std.proofs.Common.{◌≡◌, ◌+◌, length}
use Rattle.scenario_bench.proofs.file_names.push_socket_files.Given as goal

abbrev pub invariant-loop-socket : goal.invariant-loop-socket
invariant-loop-socket l = length l.names.items ≡ length l.fn.names.items + l.socket-counter
