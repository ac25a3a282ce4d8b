use Rattle.std.proofs.Common.{◌≡◌, ◌++◌}
use Rattle.scenario_bench.specs.Given.{sockets_of_host}
use Rattle.scenario_bench.proofs.socket_list.push_sockets.Given as goal

abbrev pub invariant-loop-socket : goal.invariant-loop-socket
invariant-loop-socket l = l.sockets.items ≡ l.fn.sockets.items ++ sockets_of_host l.host l.socket
