use Rattle.std.proofs.Common.{◌≡◌, length, take}
use Rattle.scenario_bench.specs.FileNames.{sockets_in}
use Rattle.scenario_bench.proofs.file_names.socket_files.Given as goal

-- the list has one name for each socket of the hosts so far
abbrev pub invariant-loop-plan : goal.invariant-loop-plan
invariant-loop-plan l = length l.names.items ≡ sockets_in (take l.plan-index l.plans)
