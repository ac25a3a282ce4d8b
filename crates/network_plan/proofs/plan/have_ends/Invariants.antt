use Rattle.std.proofs.Common.{◌<◌, ℕ, slice_index_or}
use Rattle.network_plan.specs.Plans.{HasWire}
use Rattle.network_plan.specs.declared.plan.HostPlan.{HostPlan}
use Rattle.network_plan.proofs.plan.have_ends.Given as goal

-- the wires of the hosts before this place have 2 to 8 ends
abbrev pub invariant-loop-host : goal.invariant-loop-host
invariant-loop-host l = (k : ℕ) (d : HostPlan) → k < l.host-index → HasWire l.hosts (slice_index_or l.hosts k d)
