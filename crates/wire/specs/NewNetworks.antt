-- A network that `Lan::new` makes by a plan (our choice).
use Rattle.std.specs.Prelude.{List, Err, Ok, Result, length}
use Rattle.wire.specs.HostsUp.{AreUp, IsNotUp, ShareWires}
use Rattle.network_plan.specs.Plans.{IsPlanAnswer}
use Rattle.network_plan.specs.declared.plan.HostPlan.{HostPlan}
use Rattle.network_plan.specs.declared.plan_error.PlanError.{PlanError}
use Rattle.network_plan.specs.declared.plan_error.PlanError.TheVariants as refused
use Rattle.host_calls.specs.Networks.{NetworkState}

-- Each host is initialized by its plan. Two hosts are on one wire exactly if their plans name the same wire.
pub record IsMadeByPlan (plans : List HostPlan) (network : NetworkState) : Type 0 where
  -- each host is initialized
  pub up : AreUp plans (length plans) network.hosts network.stations
  -- two hosts are on one wire exactly if their plans name the same wire
  pub wires : ShareWires plans network.stations

-- The plan is valid: a check of the plan (`IsPlanAnswer`) returns no error.
abbrev pub IsRight : List HostPlan → Type 0
IsRight plans = IsPlanAnswer plans (Ok tt)

-- The contract of `Lan::new`: an error of the plan (`IsPlanAnswer`) if the plan is invalid. Otherwise Memory, or Init
-- with the first host that can't be initialized, or the network.
abbrev pub IsLanAnswer : List HostPlan → Result NetworkState PlanError → Type 0
IsLanAnswer plans (Ok network) = IsRight plans × IsMadeByPlan plans network
IsLanAnswer plans (Err refused.Memory) = IsRight plans
IsLanAnswer plans (Err (refused.Init host error)) = IsRight plans × IsNotUp plans host error
IsLanAnswer plans (Err error) = IsPlanAnswer plans (Err error)
