use Rattle.std.proofs.Common.{◌<◌, ◌≤◌, ℕ, length, slice_index_or, IsTrue, arith, inl, inr, subst, sym, ◌∙◌}
use Rattle.std.proofs.lemmas.Bool.Decides.{eqb_tells}
use Rattle.std.proofs.lemmas.List.{get_or_default}
use Rattle.network_plan.specs.Plans.{HasWire}
use Rattle.network_plan.specs.declared.plan.HostPlan.{HostPlan}
use Rattle.network_plan.proofs.plan.have_ends.Goals as goal

pub loop-host-preserved : goal.loop-host-preserved
loop-host-preserved c = λ k d below.
    let hosts = c.args.hosts.now in
    let i = c.loop-host.host-index in
    let there : i < length hosts = omega arith in
    let seen : IsTrue c.has_wire.result = cc in
    elim (eqb_tells k i) [
      | inl same ↦
          subst (λ (j : ℕ). HasWire hosts (slice_index_or hosts j d)) (sym same.1)
          (subst (λ (h : HostPlan). HasWire hosts h) (c.host-item.is ∙ get_or_default hosts i c.host-item.result d there)
          (c.has_wire.ensures.0 seen))
      | inr other ↦ c.loop-host.invariant k d (omega (arith, below, other.1))
    ]

pub returns-then-not-has_wire : goal.returns-then-not-has_wire
returns-then-not-has_wire c =
    let below : c.loop-host.host-index < length c.args.hosts.now = omega arith in (
      λ is. absurd (cc),
      λ has.
          let one = has.all c.loop-host.host-index c.host-item.result below in
          let here = subst (λ (h : HostPlan). HasWire c.args.hosts.now h) (sym c.host-item.is) one in
          let seen : IsTrue c.has_wire.result = c.has_wire.ensures.1 here in
          cc,
    )

pub returns : goal.returns
returns c =
    let past : length c.args.hosts.now ≤ c.loop-host.host-index = omega arith in
    (λ is. record { all = λ k d below. c.loop-host.invariant k d (omega (arith, below, past)) }, λ has. cc)
