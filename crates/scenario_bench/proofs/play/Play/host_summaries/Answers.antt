use Rattle.std.proofs.Common.{◌≡◌, IfSome, Option, Some, ap, arith, rules, subst, sym, ◌∙◌}
use Rattle.std.proofs.lemmas.Option.{get_or_from_slice_get, slice_get-get_or}
use Rattle.std.specs.Prelude.{string_bytes}
use Rattle.network_plan.specs.declared.plan.HostPlan.{HostPlan}
use Rattle.stations.specs.Stations.{world_at}
use Rattle.wire.specs.Counting.{AreCounts}
use Rattle.wire.specs.declared.counts.Counts.{Counts}
use Rattle.run_record.specs.Tallies.{resets_in}
use Rattle.run_record.specs.declared.tally.Tally.{Tally}
use Rattle.scenario_bench.proofs.Benching.{one_told}
use Rattle.scenario_bench.proofs.play.Play.host_summaries.Goals as goal

pub loop-number-preserved : goal.loop-number-preserved
loop-number-preserved c =
    let number = c.loop-number.number in
    let plan = c.index-plans-number.result in
    let world = world_at c.args.self.now.lan.stations number in
    let name : string_bytes c.in_ok-from_str.field-0 ≡ string_bytes plan.name = search rules in
    one_told number c.args.plans.now c.args.self.now c.loop-number.hosts.items c.push.new.self.items plan _ c.loop-number.invariant
    (slice_get-get_or c.args.plans.now number plan (omega arith) ∙ ap (λ (plan : HostPlan). Some plan) (sym c.index-plans-number.is))
    (λ tally host tally_is host_is.
    let same : c.index-tally.result.now ≡ tally = c.index-tally.ensures
    ∙ get_or_from_slice_get c.args.self.now.record.hosts.items number tally c.index-tally.result.now tally_is in
    let counts : AreCounts host world c.unwrap-counts.result =
    subst (λ (found : Option Counts). IfSome found (AreCounts host world)) c.unwrap-counts.ensures
    (c.counts.ensures.counts host host_is) in
    record {
      name = name;
      accepted = ap (λ (t : Tally). t.accepted) same;
      put = ap (λ (t : Tally). t.put) same;
      reached = ap (λ (t : Tally). t.reached) same;
      stored = ap (λ (t : Tally). t.stored) same;
      given = ap (λ (t : Tally). t.given) same;
      resets = c.resets.ensures ∙ ap resets_in same;
      counts = (counts.missed, counts.exact, counts.unclaimed);
    }) c.in_ok-push.ensures.items
