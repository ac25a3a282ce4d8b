-- How the log of a run is stored.
use Rattle.std.specs.Prelude.{List, ℕ, map, string_bytes}
use Rattle.network_plan.specs.declared.plan.HostPlan.{HostPlan}
use Rattle.run_record.specs.EventLines.{LogState}
use Rattle.run_record.specs.declared.run_log.EventLog.TheInside.{Inside}

-- the name of a planned host
abbrev pub plan_name : HostPlan → List ℕ
plan_name plan = string_bytes plan.name

-- the state of the log whose fields are `inside`
abbrev pub log_state_of : Inside → LogState
log_state_of inside = record {
  names = map string_bytes inside.names.items;
  outcomes = inside.outcomes.items;
  text = inside.text.items;
}
