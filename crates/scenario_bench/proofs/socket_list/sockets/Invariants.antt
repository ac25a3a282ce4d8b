use Rattle.std.proofs.Common.{◌≡◌, take}
use Rattle.scenario.specs.SoFar.{hosts_of}
use Rattle.scenario_bench.specs.Given.{sockets_from}
use Rattle.scenario_bench.proofs.socket_list.sockets.Given as goal

abbrev pub invariant-loop-number : goal.invariant-loop-number
invariant-loop-number l = l.sockets.items ≡ sockets_from 0 (hosts_of (take l.number l.plans))
