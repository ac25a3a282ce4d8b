-- The number of files for the sockets of the first hosts, and of one more host.
use Rattle.std.proofs.Common.{◌≡◌, ◌<◌, ◌+◌, ◌++◌, ℕ, List, length, slice_index_or, take, refl, sym, ap, ◌∙◌}
use Rattle.std.proofs.lemmas.List.{length-append, length-map}
use Rattle.std.proofs.lemmas.List.FromFn.{length-range_with_len}
use Rattle.std.specs.List.{range_with_len}
use Rattle.network_plan.specs.declared.plan.HostPlan.{HostPlan}
use Rattle.scenario.specs.SoFar.{hosts_of}
use Rattle.scenario_bench.specs.Given.{sockets_from, sockets_of_host}
use Rattle.scenario_bench.proofs.EmptySockets.{sockets_more}
use Rattle.scenario_bench.specs.FileNames.{sockets_in}

pub host_more : (plans : List HostPlan) (number : ℕ) (plan d : HostPlan) (sinks more : ℕ) → number < length plans
    → plan ≡ slice_index_or plans number d → sinks ≡ sockets_in (take number plans) → more ≡ sinks + length plan.sockets.items
    → more ≡ sockets_in (take (number + 1) plans)
host_more plans number plan d sinks more below there is grown =
    let before = sockets_from 0 (hosts_of (take number plans)) in
    let own = sockets_of_host number (length plan.sockets.items) in
    let count : length own ≡ length plan.sockets.items =
    length-map (range_with_len 0 (length plan.sockets.items)) (λ (socket : ℕ). (number, socket))
    ∙ length-range_with_len 0 (length plan.sockets.items) in
    grown ∙ ap (λ (n : ℕ). n + length plan.sockets.items) is ∙ ap (λ (n : ℕ). length before + n) (sym count)
    ∙ sym (length-append before own)
    ∙ ap length (sockets_more plans number (length plan.sockets.items) plan d before (before ++ own) below there refl refl refl)
