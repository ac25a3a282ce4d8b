-- The exit status of a program that an error ends (our choice).
use Rattle.std.specs.Prelude.{ℕ}
use Rattle.network_plan.specs.declared.plan_error.PlanError.{PlanError}
use Rattle.network_plan.specs.declared.plan_error.PlanError.TheVariants as plan

-- 4 if memory for a network was refused; 1 for an invalid plan, and for an adapter that couldn't be initialized
abbrev pub plan_status : PlanError → ℕ
plan_status plan.Memory = 4
plan_status _ = 1
