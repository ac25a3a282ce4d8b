use Rattle.std.proofs.Common.{◌≡◌, take}
use Rattle.scenario.specs.SoFar.{hosts_of}
use Rattle.scenario_bench.specs.WireLists.{wire_names}
use Rattle.run_record.specs.Puts.{names_in}
use Rattle.scenario_bench.proofs.wire_list.wires.Given as goal

abbrev pub invariant-loop-plan : goal.invariant-loop-plan
invariant-loop-plan l = names_in l.wires.items ≡ wire_names (hosts_of (take l.plan-index l.plans))
