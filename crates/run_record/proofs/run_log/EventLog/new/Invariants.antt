use Rattle.std.proofs.Common.{◌≡◌, map, string_bytes, take}
use Rattle.run_record.specs.EventLogView.{plan_name}
use Rattle.run_record.proofs.run_log.EventLog.new.Given as goal

abbrev pub invariant-loop-plan : goal.invariant-loop-plan
invariant-loop-plan l = map string_bytes l.names.items ≡ map plan_name (take l.plan-index l.plans)
