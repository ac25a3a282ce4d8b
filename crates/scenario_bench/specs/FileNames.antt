-- The numbers of sockets and of wires of a plan: a trace for each socket, and on request one for each wire (our choice).
use Rattle.std.specs.Prelude.{ℕ, List, length}
use Rattle.network_plan.specs.declared.plan.HostPlan.{HostPlan}
use Rattle.scenario.specs.SoFar.{hosts_of}
use Rattle.scenario_bench.specs.Given.{sockets_from}
use Rattle.scenario_bench.specs.WireLists.{wire_names}

-- the number of sockets of these hosts
abbrev pub sockets_in : List HostPlan → ℕ
sockets_in plans = length (sockets_from 0 (hosts_of plans))

-- the number of wires of these hosts
abbrev pub wires_in : List HostPlan → ℕ
wires_in plans = length (wire_names (hosts_of plans))
